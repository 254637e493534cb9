use Rattle.std.proofs.Common.{◌≡◌, ◌++◌, drop}
use Rattle.serde_json.specs.View.{items_view, members_view, view}
use Rattle.neldrafi_schema.specs.Resources.{of_each, of_items, of_keyed, of_members}
use Rattle.neldrafi_schema.specs.machine.Compiled.{path_of}
use Rattle.neldrafi_schema.specs.machine.Objects.{objects_of}
use Rattle.neldrafi_schema.proofs.objects.+push_objects.Given as goal

-- the schema objects so far, and those of the items or members that are left
abbrev pub invariant-push_of_items-loop-place : goal.invariant-push_of_items-loop-place
invariant-push_of_items-loop-place l =
    objects_of l.found.items ++ of_items l.draft (path_of l.path) l.place (items_view (drop l.place l.items))
    ≡ objects_of l.fn.found.items ++ of_items l.draft (path_of l.path) 0 (items_view l.items)

abbrev pub invariant-push_of_members-loop-name : goal.invariant-push_of_members-loop-name
invariant-push_of_members-loop-name l =
    let all = members_view l.object.entries in
    objects_of l.found.items ++ of_members l.draft (path_of l.path) all (members_view l.name-iterator)
    ≡ objects_of l.fn.found.items ++ of_members l.draft (path_of l.path) all all

abbrev pub invariant-push_of_keyed-loop-name : goal.invariant-push_of_keyed-loop-name
invariant-push_of_keyed-loop-name l =
    objects_of l.found.items ++ of_each l.draft (path_of l.path) (members_view l.name-iterator)
    ≡ objects_of l.fn.found.items ++ of_keyed l.draft (path_of l.path) (view l.value)
