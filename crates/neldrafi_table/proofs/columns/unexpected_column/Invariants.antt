use Rattle.std.proofs.Common.{◌≡◌, drop}
use Rattle.serde_json.specs.View.{view}
use Rattle.neldrafi_table.specs.Columns.{columns_seen, first_unexpected}
use Rattle.neldrafi_table.proofs.columns.unexpected_column.Given as goal

-- the first unexpected of the columns that are left
abbrev pub invariant-loop-column : goal.invariant-loop-column
invariant-loop-column l = first_unexpected (view l.document) (columns_seen (drop l.column-index l.columns)) ≡ first_unexpected (view l.document) (columns_seen l.columns)
