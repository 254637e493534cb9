use Rattle.std.proofs.Common.{◌≡◌, ◌++◌, ◌-◌, drop, map}
use Rattle.serde_json.specs.View.{view}
use Rattle.neldrafi_schema.specs.Rules.{placed_items}
use Rattle.neldrafi_schema.proofs.rules.items_from.Given as goal

-- the items so far, and those that are left from that place on
abbrev pub invariant-loop-place : goal.invariant-loop-place
invariant-loop-place l = map view l.left.items ++ drop (l.from - l.place) (map view (drop l.place l.item-items)) ≡ map (λ i. i.1) (drop l.from (placed_items (view l.instance)))
