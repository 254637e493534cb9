-- What a reader has left, and what a read does.
use Rattle.std.specs.Prelude.{◌≡◌, ℕ, List, ◌++◌, drop, if◌then◌else◌, Option, Some, option_map, ⊤}
use Rattle.std.specs.Io.KnownBytes.{prepend_known}
use Rattle.neldrafi_csv.specs.declared.faults.ReadFault.{ReadFault}
use Rattle.neldrafi_csv.specs.declared.faults.ReadFault.TheVariants as fault
use Rattle.neldrafi_csv.specs.declared.input.Input.{Input}
use Rattle.neldrafi_csv.specs.declared.place.Place.{Place}
use Rattle.neldrafi_csv.specs.declared.reader.Record.{Record}
use Rattle.neldrafi_csv.specs.declared.reader.RecordReader.{RecordReader}
use Rattle.neldrafi_csv.specs.Lines.{AreLineBytes, first_place, place_after}
use Rattle.neldrafi_csv.specs.Marks.{without_mark}
use Rattle.neldrafi_csv.specs.Records.{IsMisplaced, IsOpen, IsTooLong, TakesRecord}
use Rattle.neldrafi_csv.specs.machine.Spans.{values_in}

-- the bytes that a reader has taken from its source and not read
abbrev pub at_hand : {R : Type 0} → RecordReader R → List ℕ
at_hand reader = drop reader.taken reader.input.buffer

-- the bytes that a reader has not read; `rem` tells those that a source has left
abbrev pub unread_of : {R : Type 0} → (R → Option (List ℕ)) → RecordReader R → Option (List ℕ)
unread_of rem reader = if reader.input.has_begun
    then prepend_known (at_hand reader) (rem reader.input.source)
    else option_map without_mark (prepend_known (at_hand reader) (rem reader.input.source))

-- where in the text the unread bytes begin
abbrev pub place_of : {R : Type 0} → RecordReader R → Place
place_of reader = reader.input.place

-- what delimits fields
abbrev pub delimiter_of : {R : Type 0} → RecordReader R → ℕ
delimiter_of reader = reader.delimiter.byte

-- the values of the fields of the record that was read last
abbrev pub values_of : {R : Type 0} → RecordReader R → List (Option (List ℕ))
values_of reader = values_in reader.input.buffer reader.fields

-- a reader, whose unread bytes are this text, took its next record, and is behind it
abbrev pub Takes : {R : Type 0} → (R → Option (List ℕ)) → RecordReader R → RecordReader R
    → List ℕ → Record → Type 0
Takes rem old new text taken = (rest : List ℕ) × (unread_of rem new ≡ Some rest)
    × TakesRecord (delimiter_of old) (place_of old) text taken.line (values_of new) (place_of new) rest
    × IsMisplaced (values_of new) taken.misplaced

-- it took blank lines alone, and is behind them
pub record Skips {R : Type 0} (rem : R → Option (List ℕ)) (old new : RecordReader R)
    (text : List ℕ) : Type 0 where
  pub blank : List ℕ
  pub rest : List ℕ
  pub splits : text ≡ blank ++ rest
  pub skips : AreLineBytes blank
  pub unread : unread_of rem new ≡ Some rest
  pub place : place_of new ≡ place_after (place_of old) blank

-- why there is no next record of a text that begins at a place
abbrev pub Explains : ℕ → Place → List ℕ → ReadFault → Type 0
Explains delimiter place text (fault.Read e) = ⊤
Explains delimiter place text (fault.OpenQuote line) = IsOpen delimiter place text line
Explains delimiter place text fault.Memory = ⊤
Explains delimiter place text fault.TooLong = IsTooLong place text

-- a reader is at the start of a source, whose byte order mark is no part of the text
pub record IsAtStart {R : Type 0} (rem : R → Option (List ℕ)) (source : R) (delimiter : ℕ)
    (reader : RecordReader R) : Type 0 where
  pub text : unread_of rem reader ≡ option_map without_mark (rem source)
  pub place : place_of reader ≡ first_place
  pub delimits : delimiter_of reader ≡ delimiter
