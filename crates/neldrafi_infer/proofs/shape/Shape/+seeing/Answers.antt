use Rattle.std.proofs.Common.{rules, ◌<◌, length, sym, subst, arith}
use Rattle.json.specs.Tree.{json_tokens, items_tokens, members_tokens}
use Rattle.json.specs.Value.{value_view, items_view, members_view}
use Rattle.json.proofs.Trees.{item_smaller, member_smaller}
use Rattle.neldrafi_infer.proofs.shape.Shape.+seeing.Goals as goal

pub see_items-see-requires : goal.see_items-see-requires
see_items-see-requires t c =
    let items = c.args.items.now in
    let item = c.item-item.result in
    let smaller : length (json_tokens (value_view item)) < length (items_tokens (items_view items)) =
    subst (λ it. length (json_tokens (value_view it)) < length (items_tokens (items_view items))) (sym c.item-item.is)
    (item_smaller items c.loop-item.item-index item (omega arith)) in
    search rules

pub see_members-see-requires : goal.see_members-see-requires
see_members-see-requires t c =
    let members = c.args.members.now in
    let member = c.index-members-at.result in
    let smaller : length (json_tokens (value_view member.1)) < length (members_tokens (members_view members)) =
    subst (λ it. length (json_tokens (value_view it.1)) < length (members_tokens (members_view members))) (sym c.index-members-at.is)
    (member_smaller members c.loop-at.at member (omega arith)) in
    search rules
