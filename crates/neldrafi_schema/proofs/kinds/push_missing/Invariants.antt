use Rattle.std.proofs.Common.{◌≡◌, ◌++◌, drop, map, string_bytes}
use Rattle.serde_json.specs.View.{view}
use Rattle.neldrafi_schema.specs.Rules.{missing_in}
use Rattle.neldrafi_schema.specs.machine.Found.{kinds_of}
use Rattle.neldrafi_schema.proofs.kinds.push_missing.Given as goal

abbrev pub invariant-loop-name : goal.invariant-loop-name
invariant-loop-name l = kinds_of l.kinds.items ++ missing_in (view l.instance) (map string_bytes (drop l.name-index l.names))
    ≡ kinds_of l.fn.kinds.items ++ missing_in (view l.instance) (map string_bytes l.names)
