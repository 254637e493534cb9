use Rattle.std.proofs.Common.{◌≡◌, ◌++◌, map}
use Rattle.serde_json.specs.View.{members_view}
use Rattle.neldrafi_schema.specs.Unknown.{unknown_among, unknown_in}
use Rattle.neldrafi_schema.specs.machine.Compiled.{path_of}
use Rattle.neldrafi_schema.specs.machine.Objects.{object_of}
use Rattle.neldrafi_schema.specs.machine.Unknown.{unknown_of}
use Rattle.neldrafi_schema.proofs.unknown.push_unknown.Given as goal

-- those so far, and those of the members that are left
abbrev pub invariant-loop-name : goal.invariant-loop-name
invariant-loop-name l =
    map unknown_of l.found.items ++ unknown_among l.draft (path_of l.schema.path.items) (members_view l.name-iterator)
    ≡ map unknown_of l.fn.found.items ++ unknown_in l.draft (object_of l.schema)
