-- Where the values of fields are.
use Rattle.std.specs.Prelude.{◌≡◌, ◌≤◌, ◌+◌, ℕ, Bool, true, false, List, [], ◌∷◌, ◌++◌, length, map, take, drop, Option, Some, None}
use Rattle.std.specs.Prelude.{slice_get, vec_items, ⊤}
use Rattle.std.specs.List.{AllByRecursion, slice_range}
use Rattle.neldrafi_csv.specs.declared.fields.Fields.{Fields}
use Rattle.neldrafi_csv.specs.declared.fields.Span.{Span}
use Rattle.neldrafi_csv.specs.declared.fields.Span.TheVariants as at
use Rattle.neldrafi_csv.specs.declared.fields.Taken.{Taken}
use Rattle.neldrafi_csv.specs.declared.fields.Taken.TheVariants.{More, Open, Record}
use Rattle.neldrafi_csv.specs.Grammar.{AreBefore, IsField, IsRecord}
use Rattle.neldrafi_csv.specs.Records.{EndsRecord, IsMisplaced}
use Rattle.neldrafi_csv.specs.machine.Scans.{IsKnown, StaysOpen}

-- the value of a field, by where it is in bytes or in what was copied
abbrev pub value_in : List ℕ → List ℕ → Span → Option (List ℕ)
value_in bytes copied (at.Text from to) = Some (slice_range bytes from to)
value_in bytes copied (at.Copied from to) = Some (slice_range copied from to)
value_in bytes copied at.Misplaced = None

-- the values of the fields that were taken of bytes
abbrev pub values_in : List ℕ → Fields → List (Option (List ℕ))
values_in bytes fields = map (value_in bytes fields.copied.items) fields.spans.items

-- a span is within so many bytes, or so many that were copied
abbrev pub IsWithin : ℕ → ℕ → Span → Type 0
IsWithin size copied (at.Text from to) = (from ≤ to) × (to ≤ size)
IsWithin size copied (at.Copied from to) = (from ≤ to) × (to ≤ copied)
IsWithin size copied at.Misplaced = ⊤

-- the spans are within the bytes that were taken, and the first misplaced quote is known
pub record IsKept (bytes : List ℕ) (fields : Fields) : Type 0 where
  pub within : fields.start ≤ length bytes
  pub spans : AllByRecursion (IsWithin fields.start (length fields.copied.items)) fields.spans.items
  pub misplaced : IsMisplaced (values_in bytes fields) fields.misplaced

-- fields were taken of the front of bytes, and the delimiters behind them; of the next one something is known
abbrev pub AreTaken : ℕ → List ℕ → Fields → Type 0
AreTaken delimiter bytes fields = IsKept bytes fields
    × AreBefore delimiter (take fields.start bytes) (values_in bytes fields)
    × IsKnown (drop fields.start bytes) fields.known

-- where the value of the next field is, which has so many bytes; values may have been copied
pub record IsSpan (delimiter : ℕ) (bytes : List ℕ) (old new : Fields) (size : ℕ) (span : Span) :
    Type 0 where
  pub value : Option (List ℕ)
  pub reads : IsField delimiter (take size (drop old.start bytes)) value
  pub is : value_in bytes new.copied.items span ≡ value
  pub within : IsWithin (old.start + size) (length new.copied.items) span
  pub copied : List ℕ
  pub grown : new.copied.items ≡ old.copied.items ++ copied
  pub misplaced : value ≡ None → span ≡ at.Misplaced

-- one more field was taken
pub record TakesField (delimiter : ℕ) (bytes : List ℕ) (old new : Fields) (size : ℕ) : Type 0 where
  pub value : Option (List ℕ)
  pub start : new.start ≡ old.start + size
  pub kept : IsKept bytes new
  pub reads : IsField delimiter (take size (drop old.start bytes)) value
  pub values : values_in bytes new ≡ values_in bytes old ++ (value ∷ [])
  pub known : (others : List ℕ) → IsKnown others new.known

-- what the fields that were taken of bytes are: those of a record; or those before a field that is not closed, or that
-- does not end in these bytes
abbrev pub IsTaken : ℕ → List ℕ → Bool → Fields → Taken → Type 0
IsTaken delimiter bytes is_last fields Record = IsKept bytes fields
    × IsRecord delimiter (take fields.start bytes) (values_in bytes fields)
    × ((rest : List ℕ) → (is_last ≡ true → rest ≡ [])
    → EndsRecord (drop fields.start bytes ++ rest))
IsTaken delimiter bytes is_last fields Open = AreTaken delimiter bytes fields
    × (is_last ≡ true) × StaysOpen (drop fields.start bytes)
IsTaken delimiter bytes is_last fields More = AreTaken delimiter bytes fields × (is_last ≡ false)
