use Rattle.std.proofs.Common.{◌≡◌, ◌++◌, drop, map, string_bytes}
use Rattle.std.specs.Prelude.{option_map}
use Rattle.serde_json.specs.Find.{as_str}
use Rattle.serde_json.specs.View.{items_view}
use Rattle.neldrafi_schema.specs.Values.{all_items}
use Rattle.neldrafi_schema.proofs.assertions.names_of.Given as goal

-- the names so far, and what is left
abbrev pub invariant-loop-item : goal.invariant-loop-item
invariant-loop-item l = option_map (λ rest. map string_bytes l.names.items ++ rest) (all_items as_str (items_view (drop l.item-index l.items)))
    ≡ all_items as_str (items_view l.items)
