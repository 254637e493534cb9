-- What the rows of a table have left, and what is read of it.
use Rattle.std.specs.Prelude.{◌≡◌, ℕ, List, Option, Some, None, ⊤}
use Rattle.neldrafi_csv.specs.declared.place.Place.{Place}
use Rattle.neldrafi_csv.specs.declared.reader.Record.{Record}
use Rattle.neldrafi_csv.specs.declared.reader.RecordReader.{RecordReader}
use Rattle.neldrafi_csv.specs.Reading.{Explains, delimiter_of, place_of, unread_of, values_of}
use Rattle.neldrafi_csv.specs.Records.{HasNoRecord, IsMisplaced, TakesRecord}
use Rattle.neldrafi_table.specs.declared.faults.TableFault.{TableFault}
use Rattle.neldrafi_table.specs.declared.faults.TableFault.TheVariants as fault
use Rattle.neldrafi_table.specs.declared.forms.EmptyField.{EmptyField}
use Rattle.neldrafi_table.specs.declared.rows.Rows.{Rows}

-- the character that separates fields
abbrev pub delimiter_in : {R : Type 0} → Rows R → ℕ
delimiter_in rows = delimiter_of rows.reader

-- what an empty field is
abbrev pub empty_in : {R : Type 0} → Rows R → EmptyField
empty_in rows = rows.empty

-- A text that is at a place is what a reader has left, by what was read of it ahead: nothing; a record, which the
-- reader took; or that there is no record.
abbrev pub IsLeftBy : {R : Type 0} → (R → Option (List ℕ)) → RecordReader R → Option (Option Record)
    → Place → List ℕ → Type 0
IsLeftBy rem reader None place text = (place_of reader ≡ place) × (unread_of rem reader ≡ Some text)
IsLeftBy rem reader (Some (Some ahead)) place text = (rest : List ℕ)
    × (unread_of rem reader ≡ Some rest)
    × TakesRecord (delimiter_of reader) place text ahead.line (values_of reader) (place_of reader) rest
    × IsMisplaced (values_of reader) ahead.misplaced
IsLeftBy rem reader (Some None) place text = HasNoRecord text

-- a text that is at a place is what the rows have left
abbrev pub HasLeft : {R : Type 0} → (R → Option (List ℕ)) → Rows R → Place → List ℕ → Type 0
HasLeft rem rows place text = IsLeftBy rem rows.reader rows.ahead place text

-- The next record of a text, which rows had left at a place, begins on this line and has fields with these values; the
-- rows have left what is behind it.
abbrev pub TakesNext : {R : Type 0} → (R → Option (List ℕ)) → Rows R → Rows R → Place → List ℕ → ℕ
    → List (Option (List ℕ)) → Type 0
TakesNext rem old new place text line values = (behind : Place) × (rest : List ℕ)
    × TakesRecord (delimiter_in old) place text line values behind rest
    × HasLeft rem new behind rest × (delimiter_in new ≡ delimiter_in old)

-- why no record of a text, which is at a place, is read
abbrev pub IsWhyUnread : ℕ → Place → List ℕ → TableFault → Type 0
IsWhyUnread delimiter place text (fault.Record why) = Explains delimiter place text why
IsWhyUnread delimiter place text fault.Memory = ⊤
IsWhyUnread delimiter place text _ = ⊥
