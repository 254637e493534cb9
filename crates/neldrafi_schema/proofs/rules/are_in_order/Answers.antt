use Rattle.std.proofs.Common.{rules}
use Rattle.std.proofs.lemmas.List.Sorted.{answers_always}
use Rattle.std.specs.Cmp.Lexicographic.{slice_cmp}
use Rattle.std.specs.Ordering.{is_le, nat_cmp}
use Rattle.neldrafi_schema.specs.machine.Ordered.{name_in}
use Rattle.neldrafi_schema.proofs.Searched.{in_order}
use Rattle.neldrafi_schema.proofs.rules.are_in_order.Goals as goal

pub returns : goal.returns
returns c = in_order c.args.branches.now c.is_sorted_by.result (c.is_sorted_by.ensures.cases (λ x y. is_le (slice_cmp nat_cmp (name_in x.key) (name_in y.key)))
    (answers_always _ _ _ (λ f a r g called. search rules)))
