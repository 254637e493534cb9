use Rattle.std.proofs.Common.{◌≡◌, drop}
use Rattle.serde_json.specs.View.{items_view, view}
use Rattle.neldrafi_schema.specs.Equality.{has_same}
use Rattle.neldrafi_schema.proofs.equality.has_same.Given as goal

-- no item so far is the same
abbrev pub invariant-loop-item : goal.invariant-loop-item
invariant-loop-item l = has_same (view l.value) (items_view l.items) ≡ has_same (view l.value) (items_view (drop l.item-index l.items))
