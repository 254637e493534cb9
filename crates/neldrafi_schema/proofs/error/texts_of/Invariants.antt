use Rattle.std.proofs.Common.{◌≡◌, ◌++◌, drop, map, string_bytes, false}
use Rattle.std.specs.List.{list_any}
use Rattle.serde_json.specs.View.{view}
use Rattle.serde_json.specs.Written.{compact_text, has_float}
use Rattle.neldrafi_schema.proofs.error.texts_of.Given as goal

abbrev pub invariant-loop-value : goal.invariant-loop-value
invariant-loop-value l = list_any has_float (map view l.values) ≡ false
    → (map string_bytes l.texts.items ++ map compact_text (map view (drop l.value-index l.values)) ≡ map compact_text (map view l.values))
    × (list_any has_float (map view (drop l.value-index l.values)) ≡ false)
