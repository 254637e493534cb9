use Rattle.std.proofs.Common.{◌≡◌, ◌+◌, ◌-◌, ℕ, true, take, drop, sym, ap, ◌∙◌, arith}
use Rattle.std.specs.List.{list_all}
use Rattle.strkw_pattern.specs.Whitespace.{is_solid}
use Rattle.strkw_pattern.proofs.Clear.{one_more_block, solid_bytes}
use Rattle.strkw_pattern.proofs.whitespace.solid_blocks.Goals as goal

pub loop-run-preserved : goal.loop-run-preserved
loop-run-preserved c =
    let run = c.loop-run.run in
    let size : (run + 32) - run ≡ 32 = omega arith in
    let block : list_all is_solid (take 32 (drop run c.args.bytes.now)) ≡ true =
    ap (λ (n : ℕ). list_all is_solid (take n (drop run c.args.bytes.now))) (sym size) ∙ sym c.are_solid.ensures ∙ c.if-are_solid.true in
    (omega arith, one_more_block c.args.bytes.now run 32 c.loop-run.invariant.1 (solid_bytes (take 32 (drop run c.args.bytes.now)) block))
