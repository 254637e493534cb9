-- The names of the columns, and where the data begin.
use Rattle.std.specs.Prelude.{◌≡◌, ◌⊎◌, ◌<◌, ◌++◌, ℕ, zero, suc, List, [], ◌∷◌, length, Option, Some, None, decimal, string_bytes, ⊤}
use Rattle.csv.specs.Records.{AllText, field_at}
use Rattle.neldrafi_csv.specs.declared.place.Place.{Place}
use Rattle.neldrafi_csv.specs.Lines.{first_place}
use Rattle.neldrafi_csv.specs.Reading.{Explains}
use Rattle.neldrafi_csv.specs.Records.{HasNoRecord, IsMisplaced, TakesRecord, texts_of}
use Rattle.neldrafi_table.specs.declared.faults.RowFault.{RowFault}
use Rattle.neldrafi_table.specs.declared.faults.RowFault.TheVariants as row
use Rattle.neldrafi_table.specs.declared.faults.TableFault.{TableFault}
use Rattle.neldrafi_table.specs.declared.faults.TableFault.TheVariants as fault
use Rattle.neldrafi_table.specs.declared.forms.Header.{Header}
use Rattle.neldrafi_table.specs.declared.forms.Header.TheVariants.{Absent, First}
use Rattle.neldrafi_table.specs.Objects.{IsFirstNotUtf8}

-- two columns have this name
abbrev pub IsDuplicate : List (List ℕ) → List ℕ → Type 0
IsDuplicate names name = (i : ℕ) × (j : ℕ) × (i < j)
    × (field_at names i ≡ Some name) × (field_at names j ≡ Some name)

-- no two columns have the same name
abbrev pub AreDistinct : List (List ℕ) → Type 0
AreDistinct names = (name : List ℕ) → IsDuplicate names name → ⊥

-- the numbers from 1 up to this one, in decimal
unfoldable pub numbers : ℕ → List (List ℕ)
numbers zero = []
numbers (suc n) = numbers n ++ decimal (suc n) ∷ []

-- the fields of a record with these values are these names
abbrev pub AreNames : List (Option (List ℕ)) → List (List ℕ) → Type 0
AreNames values names = IsMisplaced values None × AllText (texts_of values) × (names ≡ texts_of values)

-- why the fields of a record with these values are no names
abbrev pub IsWhyNoNames : List (Option (List ℕ)) → RowFault → Type 0
IsWhyNoNames values (row.MisplacedQuote number) = IsMisplaced values (Some number)
IsWhyNoNames values (row.Fields found expected) = ⊥
IsWhyNoNames values (row.NotUtf8 number) = IsMisplaced values None
    × IsFirstNotUtf8 (texts_of values) number

-- the first record of a text begins on a line and has fields with these values; the rest is at a place
abbrev pub TakesFirst : ℕ → List ℕ → ℕ → List (Option (List ℕ)) → Place → List ℕ → Type 0
TakesFirst delimiter text line values behind rest =
    TakesRecord delimiter first_place text line values behind rest

-- The columns of a text have these names; the data are at this place, and are what is left of the text.
-- Without a header the columns have the numbers of the fields of the first record, if there is one.
abbrev pub Heads : Header → ℕ → List ℕ → List (List ℕ) → Place → List ℕ → Type 0
Heads First delimiter text names place left = (line : ℕ) × (values : List (Option (List ℕ)))
    × TakesFirst delimiter text line values place left × AreNames values names × AreDistinct names
Heads Absent delimiter text names place left = (place ≡ first_place) × (left ≡ text)
    × ((HasNoRecord text × (names ≡ []))
    ⊎ ((line : ℕ) × (values : List (Option (List ℕ))) × (behind : Place) × (rest : List ℕ)
    × TakesFirst delimiter text line values behind rest × (names ≡ numbers (length values))))

-- why a text has no columns
abbrev pub IsWhyUnheaded : Header → ℕ → List ℕ → TableFault → Type 0
IsWhyUnheaded header delimiter text fault.NoHeader = (header ≡ First) × HasNoRecord text
IsWhyUnheaded header delimiter text (fault.Names line why) = (header ≡ First)
    × (values : List (Option (List ℕ))) × (behind : Place) × (rest : List ℕ)
    × TakesFirst delimiter text line values behind rest × IsWhyNoNames values why
IsWhyUnheaded header delimiter text (fault.Duplicate name) = (header ≡ First) × (line : ℕ)
    × (values : List (Option (List ℕ))) × (behind : Place) × (rest : List ℕ)
    × TakesFirst delimiter text line values behind rest
    × IsDuplicate (texts_of values) (string_bytes name)
IsWhyUnheaded header delimiter text (fault.Record why) = Explains delimiter first_place text why
IsWhyUnheaded header delimiter text fault.Memory = ⊤
