-- What a reader does at the front of a record.
use Rattle.std.specs.Prelude.{◌≡◌, ℕ, List, ◌++◌, Option, Some}
use Rattle.neldrafi_csv.specs.declared.reader.RecordReader.{RecordReader}
use Rattle.neldrafi_csv.specs.Grammar.{IsRecord}
use Rattle.neldrafi_csv.specs.Lines.{place_after}
use Rattle.neldrafi_csv.specs.Reading.{at_hand, delimiter_of, values_of}
use Rattle.neldrafi_csv.specs.Records.{EndsRecord, IsMisplaced}
use Rattle.std.specs.Io.KnownBytes.{prepend_known}

-- a reader took the record at the front of a text, and is behind it
pub record TakesAt {R : Type 0} (rem : R → Option (List ℕ)) (old new : RecordReader R)
    (text : List ℕ) : Type 0 where
  pub bytes : List ℕ
  pub rest : List ℕ
  pub splits : text ≡ bytes ++ rest
  pub reads : IsRecord (delimiter_of old) bytes (values_of new)
  pub ends : EndsRecord rest
  pub unread : prepend_known (at_hand new) (rem new.input.source) ≡ Some rest
  pub place : new.input.place ≡ place_after old.input.place bytes
  pub misplaced : IsMisplaced (values_of new) new.fields.misplaced
