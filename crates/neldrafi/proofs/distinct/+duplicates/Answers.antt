use Rattle.std.proofs.Common.{◌≡◌, ◌<◌, length, ap, ◌∙◌, sym, subst, arith, rules}
use Rattle.std.specs.Prelude.{IfOk, MatchOption}
use Rattle.json.specs.Json.{object}
use Rattle.json.specs.Strict.{AreDistinct, MembersHaveUniqueKeys, keys}
use Rattle.json.specs.Tree.{json_tokens, items_tokens, members_tokens}
use Rattle.json.specs.Value.{value_view, items_view, members_view}
use Rattle.json.proofs.Trees.{item_smaller, member_smaller, view-Object}
use Rattle.neldrafi.specs.Distinct.{MembersHaveDuplicate}
use Rattle.neldrafi.proofs.Duplicates.{found_in_object}
use Rattle.neldrafi.proofs.distinct.+duplicates.Goals as goal

pub duplicate_in-returns-in-None : goal.duplicate_in-returns-in-None
duplicate_in-returns-in-None t c =
    let found = c.duplicate_in_members.result in
    let seen : value_view c.args.value.now ≡ object (members_view c.in-Object.members.items) = ap value_view c.in-Object.is ∙ view-Object c.in-Object.members in
    let apart : AreDistinct (keys (members_view c.deref-in-Object.result.now)) = rw (c.in-None.is) at c.in_ok-name-in-Object.ensures in
    found_in_object _ _ seen (subst (λ ms. AreDistinct (keys (members_view ms))) c.deref-in-Object.ensures.value apart) found
    (subst (λ ms. IfOk found (λ o. MatchOption o (MembersHaveUniqueKeys (members_view ms)) (λ name. MembersHaveDuplicate name.now (members_view ms))))
    c.deref-in-None.ensures.value c.duplicate_in_members.ensures)

pub duplicate_in_items-duplicate_in-requires : goal.duplicate_in_items-duplicate_in-requires
duplicate_in_items-duplicate_in-requires t c =
    let items = c.args.items.now in
    let item = c.item-item.result in
    let smaller : length (json_tokens (value_view item)) < length (items_tokens (items_view items)) =
    subst (λ it. length (json_tokens (value_view it)) < length (items_tokens (items_view items))) (sym c.item-item.is)
    (item_smaller items c.loop-item.item-index item (omega arith)) in
    search rules

pub duplicate_in_members-duplicate_in-requires : goal.duplicate_in_members-duplicate_in-requires
duplicate_in_members-duplicate_in-requires t c =
    let members = c.args.members.now in
    let member = c.member-item.result in
    let smaller : length (json_tokens (value_view member.1)) < length (members_tokens (members_view members)) =
    subst (λ it. length (json_tokens (value_view it.1)) < length (members_tokens (members_view members))) (sym c.member-item.is)
    (member_smaller members c.loop-member.member-index member (omega arith)) in
    search rules
