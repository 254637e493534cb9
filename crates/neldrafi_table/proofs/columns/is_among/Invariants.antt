use Rattle.std.proofs.Common.{◌≡◌, drop}
use Rattle.neldrafi_table.specs.Columns.{columns_seen, is_among}
use Rattle.neldrafi_table.proofs.columns.is_among.Given as goal

-- whether one of the columns that are left is this
abbrev pub invariant-loop-column : goal.invariant-loop-column
invariant-loop-column l = is_among (columns_seen (drop l.column-index l.columns)) l.name ≡ is_among (columns_seen l.columns) l.name
