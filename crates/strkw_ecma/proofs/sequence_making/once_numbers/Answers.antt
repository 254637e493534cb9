use Rattle.std.proofs.Common.{◌∷◌, [], length, length-append, ap, ◌∙◌, arith}
use Rattle.strkw_ecma.proofs.Chained.{once_more}
use Rattle.strkw_ecma.proofs.sequence_making.once_numbers.Goals as goal

pub loop-instruction-preserved : goal.loop-instruction-preserved
loop-instruction-preserved c =
    let before = c.loop-instruction.invariant in
    record {
      so_many =
          ap length c.in_ok-push.ensures.items ∙ length-append c.loop-instruction.numbers.items (_ ∷ []) ∙ omega (arith, before.so_many);
      so_far =
          once_more c.args.instructions.now c.loop-instruction.numbers.items _ c.loop-instruction.instruction-index c.in-Some.number _ before.so_far
          c.loop-instruction-test.true c.in-Some.ensures c.in_ok-push.ensures.items;
    }
