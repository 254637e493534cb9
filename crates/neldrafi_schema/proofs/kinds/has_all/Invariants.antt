use Rattle.std.proofs.Common.{◌≡◌, drop, map, string_bytes}
use Rattle.serde_json.specs.View.{view}
use Rattle.neldrafi_schema.specs.Rules.{missing_in}
use Rattle.neldrafi_schema.proofs.kinds.has_all.Given as goal

-- no name so far is missing
abbrev pub invariant-loop-name : goal.invariant-loop-name
invariant-loop-name l = missing_in (view l.instance) (map string_bytes l.names) ≡ missing_in (view l.instance) (map string_bytes (drop l.name-index l.names))
