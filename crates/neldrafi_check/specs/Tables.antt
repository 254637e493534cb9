-- What is written about a table.
use Rattle.std.specs.Prelude.{◌≡◌, ◌⊎◌, ℕ, List, [], ◌++◌, length, Option, None}
use Rattle.csv.specs.Records.{AllText}
use Rattle.neldrafi_csv.specs.declared.place.Place.{Place}
use Rattle.neldrafi_csv.specs.Records.{HasNoRecord, IsMisplaced, TakesRecord, texts_of}
use Rattle.neldrafi_table.specs.declared.columns.FieldTypes.{FieldTypes}
use Rattle.neldrafi_table.specs.declared.forms.EmptyField.{EmptyField}
use Rattle.neldrafi_table.specs.Objects.{record_object}
use Rattle.neldrafi_check.specs.Counting.{both, of_nothing}
use Rattle.neldrafi_check.specs.Files.{Errors, UnreadTold, ValueTold}
use Rattle.neldrafi_check.specs.Forms.{Form}
use Rattle.neldrafi_check.specs.Messages.{at_front}
use Rattle.neldrafi_check.specs.declared.counts.Counts.{Counts}

-- These bytes tell the errors of the record that begins on this line and whose fields have these values: those of its
-- object, or that it is none. So many are its values and its errors.
abbrev pub RecordTold : Errors → Form → EmptyField → List (List ℕ × FieldTypes) → ℕ → List (Option (List ℕ)) → Counts
    → List ℕ → Type 0
RecordTold errors form empty columns line values counts made =
    (IsMisplaced values None × (length values ≡ length columns) × AllText (texts_of values)
    × ValueTold (errors (record_object empty columns (texts_of values))) form (at_front line) counts made)
    ⊎ ((IsMisplaced values None → (length values ≡ length columns) → AllText (texts_of values) → ⊥)
    × UnreadTold form line counts made)

-- The same of the records of a text that is at a place.
pub data RecordsTold (told : ℕ → List (Option (List ℕ)) → Counts → List ℕ → Type 0) (delimiter : ℕ)
    : Place → List ℕ → Counts → List ℕ → Type 0 where
  none : (place : Place) (text : List ℕ) → HasNoRecord text
      → RecordsTold told delimiter place text of_nothing []
  more : (place behind : Place) (text rest : List ℕ) (line : ℕ) (counts others : Counts)
      (values : List (Option (List ℕ))) (made later : List ℕ)
      → TakesRecord delimiter place text line values behind rest
      → told line values counts made → RecordsTold told delimiter behind rest others later
      → RecordsTold told delimiter place text (both counts others) (made ++ later)
