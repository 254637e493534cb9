use Rattle.std.proofs.Common.{◌≡◌, [], drop, ◌∙◌, drop_of_length-le, arith}
use Rattle.strkw_ecma.proofs.Linked.{text_ends, first_left}
use Rattle.strkw_ecma.proofs.links.begin_with_each.Goals as goal

pub returns-in_default : goal.returns-in_default
returns-in_default c classes tables =
    let place = c.loop-place.place in
    let none : drop place c.args.bytes.now ≡ [] = drop_of_length-le c.args.bytes.now {i = place} (grind (arith, c.in_default.ensures.lookup)) in
    text_ends classes _ _ _ _ (first_left c.args.numbers.now place c.loop-place-test.true) none ∙ c.loop-place.invariant.so_far classes tables
