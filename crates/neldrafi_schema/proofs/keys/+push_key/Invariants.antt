use Rattle.std.proofs.Common.{◌≡◌, ◌∷◌, [], ◌++◌, drop}
use Rattle.serde_json.specs.View.{items_view, members_view}
use Rattle.neldrafi_schema.specs.machine.Keys.{items_key, members_key}
use Rattle.neldrafi_schema.proofs.keys.+push_key.Given as goal

-- what is there and the keys of the items that are left are the key so far
abbrev pub invariant-push_items-loop-item : goal.invariant-push_items-loop-item
invariant-push_items-loop-item l =
    l.key.items ++ items_key (items_view (drop l.item-index l.items)) ≡ l.initial.key.items ++ items_key (items_view l.items)

abbrev pub invariant-push_members-loop-name : goal.invariant-push_members-loop-name
invariant-push_members-loop-name l =
    l.key.items ++ members_key (members_view l.name-iterator) ≡ l.initial.key.items ++ members_key (members_view l.members.entries)
