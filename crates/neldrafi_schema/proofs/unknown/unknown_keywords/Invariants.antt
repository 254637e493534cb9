use Rattle.std.proofs.Common.{◌≡◌, ◌++◌, drop, map}
use Rattle.std.specs.List.{flat_map}
use Rattle.serde_json.specs.View.{view}
use Rattle.neldrafi_schema.specs.Unknown.{unknown_in, unknown_keywords}
use Rattle.neldrafi_schema.specs.machine.Objects.{objects_of}
use Rattle.neldrafi_schema.specs.machine.Unknown.{unknown_of}
use Rattle.neldrafi_schema.proofs.unknown.unknown_keywords.Given as goal

-- those so far, and those of the schema objects that are left
abbrev pub invariant-loop-schema : goal.invariant-loop-schema
invariant-loop-schema l =
    map unknown_of l.found.items ++ flat_map (unknown_in l.draft) (objects_of (drop l.schema-index l.schema-items))
    ≡ unknown_keywords l.fn.draft (view l.document)
