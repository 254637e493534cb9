use Rattle.std.proofs.Common.{◌≡◌, drop}
use Rattle.serde_json.specs.View.{items_view}
use Rattle.neldrafi_table.specs.Columns.{columns_seen, first_missing}
use Rattle.neldrafi_table.proofs.columns.first_missing.Given as goal

-- the first missing of the values that are left
abbrev pub invariant-loop-value : goal.invariant-loop-value
invariant-loop-value l = first_missing (columns_seen l.columns) (items_view (drop l.value-index l.values)) ≡ first_missing (columns_seen l.columns) (items_view l.values)
