use Rattle.std.proofs.Common.{sym, ◌∙◌, arith}
use Rattle.ucd_table.proofs.RunsLemmas.{run_value-after}
use Rattle.strkw_charset.proofs.RunEnds.{in_run}
use Rattle.strkw_charset.proofs.ends.value_end.Goals as goal

pub returns-then-c-end-clause-alike : goal.returns-then-c-end-clause-alike
returns-then-c-end-clause-alike c d from before =
    let runs = c.args.runs.now in
    let next = c.loop-next.next in
    in_run runs next d c.loop-next-test.true (c.loop-next.invariant d from) before
    ∙ sym (in_run runs next c.args.c c.loop-next-test.true (c.loop-next.invariant c.args.c (omega arith)) c.if-c-end.true)

pub loop-next-preserved : goal.loop-next-preserved
loop-next-preserved c d from = run_value-after c.args.runs.now c.loop-next.next d c.requires.runs c.loop-next-test.true (omega (arith, from, c.if-c-end.false))
