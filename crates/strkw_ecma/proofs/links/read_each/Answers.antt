use Rattle.std.proofs.Common.{sym, ◌∙◌}
use Rattle.strkw_ecma.proofs.Linked.{one_passed, text_ends, next_behind, first_left}
use Rattle.strkw_ecma.proofs.links.read_each.Goals as goal

pub returns-in_default-clause-answer : goal.returns-in_default-clause-answer
returns-in_default-clause-answer c =
    text_ends c.args.classes.now _ _ _ _ (first_left c.args.numbers.now c.loop-number.number-index c.loop-number-test.true) c.in_default.ensures
    ∙ c.loop-number.invariant.so_far

pub loop-number-preserved : goal.loop-number-preserved
loop-number-preserved c =
    let before = c.loop-number.invariant in
    record {
      so_far =
          one_passed c.args.classes.now _ _ _ _ _ c.in-Some.c (first_left c.args.numbers.now c.loop-number.number-index c.loop-number-test.true)
          c.in-Some.ensures (sym c.if-not-has_char.ensures) ∙ before.so_far;
      behind = next_behind c.loop-number.number-index _ _ _ c.in-Some.c before.behind c.in-Some.ensures;
    }
