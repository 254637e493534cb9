use Rattle.std.proofs.Common.{◌≡◌, ◌+◌, ◌-◌, ℕ, false, take, drop, sym, ap, ◌∙◌, arith}
use Rattle.std.specs.List.{list_any}
use Rattle.strkw_pattern.specs.Whitespace.{may_begin}
use Rattle.strkw_pattern.proofs.Clear.{one_more_block}
use Rattle.strkw_pattern.proofs.whitespace.clear_blocks.Goals as goal

pub loop-run-preserved : goal.loop-run-preserved
loop-run-preserved c =
    let run = c.loop-run.run in
    let size : (run + 32) - run ≡ 32 = omega arith in
    let block : list_any may_begin (take 32 (drop run c.args.bytes.now)) ≡ false =
    ap (λ (n : ℕ). list_any may_begin (take n (drop run c.args.bytes.now))) (sym size) ∙ sym c.any_begins.ensures ∙ c.if-not-any_begins.true in
    (omega arith, one_more_block c.args.bytes.now run 32 c.loop-run.invariant.1 block)
