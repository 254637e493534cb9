use Rattle.std.proofs.Common.{◌≡◌, ◌++◌, drop}
use Rattle.std.specs.Prelude.{option_map}
use Rattle.serde_json.specs.View.{items_view}
use Rattle.neldrafi_schema.specs.Values.{all_items, type_in}
use Rattle.neldrafi_schema.proofs.assertions.types_in.Given as goal

-- the types so far, and what is left
abbrev pub invariant-loop-item : goal.invariant-loop-item
invariant-loop-item l = option_map (λ rest. l.types.items ++ rest) (all_items type_in (items_view (drop l.item-index l.item-items)))
    ≡ all_items type_in (items_view l.item-items)
