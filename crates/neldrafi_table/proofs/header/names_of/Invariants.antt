use Rattle.std.proofs.Common.{◌≡◌, take}
use Rattle.csv.specs.Records.{AllText, fields_of}
use Rattle.neldrafi_csv.specs.Reading.{values_of}
use Rattle.neldrafi_csv.specs.Records.{texts_of}
use Rattle.neldrafi_table.proofs.header.names_of.Given as goal

-- the names so far, which are UTF-8
abbrev pub invariant-loop-at : goal.invariant-loop-at
invariant-loop-at g l = record {
  names : fields_of l.names ≡ take l.at (texts_of (values_of l.reader));
  text : AllText (take l.at (texts_of (values_of l.reader)));
}
