use Rattle.std.proofs.Common.{◌≡◌, take}
use Rattle.csv.specs.Records.{fields_of}
use Rattle.serde_json.specs.View.{view}
use Rattle.neldrafi_table.specs.Columns.{columns_by, columns_seen}
use Rattle.neldrafi_table.proofs.columns.columns_of.Given as goal

-- the columns so far
abbrev pub invariant-loop-at : goal.invariant-loop-at
invariant-loop-at l = columns_seen l.columns.items ≡ columns_by (view l.document) (take l.at (fields_of l.names))
