use Rattle.std.proofs.Common.{◌≡◌, drop}
use Rattle.serde_json.specs.View.{items_view}
use Rattle.neldrafi_table.specs.Columns.{has_string}
use Rattle.neldrafi_table.proofs.columns.has_string.Given as goal

-- whether one of the values that are left is the string
abbrev pub invariant-loop-value : goal.invariant-loop-value
invariant-loop-value l = has_string l.name (items_view (drop l.value-index l.values)) ≡ has_string l.name (items_view l.values)
