use Rattle.std.proofs.Common.{◌≡◌, drop}
use Rattle.serde_json.specs.View.{items_view}
use Rattle.neldrafi_schema.specs.Equality.{are_distinct}
use Rattle.neldrafi_schema.proofs.equality.are_distinct_in_pairs.Given as goal

-- no item so far is the same as one behind it
abbrev pub invariant-loop-place : goal.invariant-loop-place
invariant-loop-place l = are_distinct (items_view l.items) ≡ are_distinct (items_view (drop l.place l.items))
