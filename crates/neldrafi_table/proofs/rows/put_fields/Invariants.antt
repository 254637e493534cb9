use Rattle.std.proofs.Common.{◌≡◌, drop, take}
use Rattle.csv.specs.Records.{AllText}
use Rattle.neldrafi_csv.specs.Reading.{values_of}
use Rattle.neldrafi_csv.specs.Records.{texts_of}
use Rattle.serde_json.specs.View.{members_view}
use Rattle.neldrafi_table.specs.Columns.{columns_seen}
use Rattle.neldrafi_table.specs.Objects.{with_fields}
use Rattle.neldrafi_table.proofs.rows.put_fields.Given as goal

-- with the fields that are left, the object is the one with all of them; those before are UTF-8
abbrev pub invariant-loop-at : goal.invariant-loop-at
invariant-loop-at g l = record {
  put : with_fields l.empty (columns_seen (drop l.at l.columns)) (drop l.at (texts_of (values_of l.reader))) (members_view l.members.entries)
      ≡ with_fields l.empty (columns_seen l.columns) (texts_of (values_of l.reader)) (members_view l.initial.members.entries);
  text : AllText (take l.at (texts_of (values_of l.reader)));
}
