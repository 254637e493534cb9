use Rattle.std.proofs.Common.{ℕ, List, drop, length}
use Rattle.json.specs.Strict.{ItemsHaveUniqueKeys, MembersHaveUniqueKeys}
use Rattle.json.specs.Tree.{json_tokens, items_tokens, members_tokens}
use Rattle.json.specs.Value.{value_view, items_view, members_view}
use Rattle.neldrafi.specs.Distinct.{ItemsHaveDuplicate, MembersHaveDuplicate}
use Rattle.neldrafi.proofs.distinct.+duplicates.Given as goal

abbrev pub decreases-duplicate_in : goal.decreases-duplicate_in
decreases-duplicate_in l = length (json_tokens (value_view l.value.now))

abbrev pub decreases-duplicate_in_items : goal.decreases-duplicate_in_items
decreases-duplicate_in_items l = length (items_tokens (items_view l.items.now))

abbrev pub decreases-duplicate_in_members : goal.decreases-duplicate_in_members
decreases-duplicate_in_members l = length (members_tokens (members_view l.members.now))

-- what is found in the items that are left is what is found in all
abbrev pub invariant-duplicate_in_items-loop-item : goal.invariant-duplicate_in_items-loop-item
invariant-duplicate_in_items-loop-item l =
    (ItemsHaveUniqueKeys (items_view (drop l.item-index l.items)) → ItemsHaveUniqueKeys (items_view l.items))
    × ((name : List ℕ) → ItemsHaveDuplicate name (items_view (drop l.item-index l.items)) → ItemsHaveDuplicate name (items_view l.items))

-- the same of the members
abbrev pub invariant-duplicate_in_members-loop-member : goal.invariant-duplicate_in_members-loop-member
invariant-duplicate_in_members-loop-member l =
    (MembersHaveUniqueKeys (members_view (drop l.member-index l.members)) → MembersHaveUniqueKeys (members_view l.members))
    × ((name : List ℕ) → MembersHaveDuplicate name (members_view (drop l.member-index l.members)) → MembersHaveDuplicate name (members_view l.members))
