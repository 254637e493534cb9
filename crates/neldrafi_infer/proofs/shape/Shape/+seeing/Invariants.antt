use Rattle.std.proofs.Common.{◌≡◌, length}
use Rattle.json.specs.Tree.{json_tokens, items_tokens, members_tokens}
use Rattle.json.specs.Value.{value_view, items_view, members_view}
use Rattle.neldrafi_infer.specs.Shapes.{held_at}
use Rattle.neldrafi_infer.proofs.shape.Shape.+seeing.Given as goal

abbrev pub decreases-see : goal.decreases-see
decreases-see l = length (json_tokens (value_view l.value.now))

abbrev pub decreases-see_items : goal.decreases-see_items
decreases-see_items l = length (items_tokens (items_view l.items.now))

abbrev pub decreases-see_members : goal.decreases-see_members
decreases-see_members l = length (members_tokens (members_view l.members.now))

-- what is held at the place itself stays
abbrev pub invariant-see_items-loop-item : goal.invariant-see_items-loop-item
invariant-see_items-loop-item l = held_at l.self ≡ held_at l.initial.self

abbrev pub invariant-see_members-loop-at : goal.invariant-see_members-loop-at
invariant-see_members-loop-at l = held_at l.self ≡ held_at l.initial.self
