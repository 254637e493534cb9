use Rattle.std.proofs.Common.{◌≡◌, drop, map}
use Rattle.std.specs.List.{list_any}
use Rattle.serde_json.specs.View.{view}
use Rattle.neldrafi_schema.specs.Equality.{same}
use Rattle.neldrafi_schema.proofs.kinds.is_among.Given as goal

-- it is none of the values so far
abbrev pub invariant-loop-option : goal.invariant-loop-option
invariant-loop-option l = list_any (same (view l.instance)) (map view l.options) ≡ list_any (same (view l.instance)) (map view (drop l.option-index l.options))
