-- A record as a JSON object: a member for each column, by its name.
use Rattle.std.specs.Prelude.{◌≡◌, ◌≢◌, ◌+◌, ℕ, List, [], ◌∷◌, length, take, Option, Some, None, Result, Ok, Err, IsUtf8}
use Rattle.csv.specs.Records.{AllText, field_at}
use Rattle.serde_json.specs.Data.{Data, Members, no_members, object, put}
use Rattle.serde_json.specs.View.{view}
use Rattle.serde_json.specs.declared.value.Value.{Value}
use Rattle.neldrafi_csv.specs.Records.{IsMisplaced, texts_of}
use Rattle.neldrafi_table.specs.declared.columns.FieldTypes.{FieldTypes}
use Rattle.neldrafi_table.specs.declared.faults.RowFault.{RowFault}
use Rattle.neldrafi_table.specs.declared.faults.RowFault.TheVariants.{Fields, MisplacedQuote, NotUtf8}
use Rattle.neldrafi_table.specs.declared.forms.EmptyField.{EmptyField}
use Rattle.neldrafi_table.specs.Fields.{field_value}

-- the members with this one, unless its field is absent
abbrev pub with_field : List ℕ → Option Data → Members → Members
with_field name None ms = ms
with_field name (Some value) ms = put name value ms

-- the members with those of the fields
abbrev pub with_fields : EmptyField → List (List ℕ × FieldTypes) → List (List ℕ) → Members → Members
with_fields empty [] fields ms = ms
with_fields empty (c ∷ cs) [] ms = ms
with_fields empty (c ∷ cs) (field ∷ fields) ms =
    with_fields empty cs fields (with_field c.0 (field_value empty c.1 field) ms)

-- the object of a record with these fields
abbrev pub record_object : EmptyField → List (List ℕ × FieldTypes) → List (List ℕ) → Data
record_object empty columns fields = object (with_fields empty columns fields no_members)

-- the number, from 1, of the first field that is not UTF-8
pub record IsFirstNotUtf8 (fields : List (List ℕ)) (number : ℕ) : Type 0 where
  pub at : ℕ
  pub field : List ℕ
  pub counts : number ≡ at + 1
  pub found : field_at fields at ≡ Some field
  pub broken : ¬ (IsUtf8 field)
  pub before : AllText (take at fields)

-- What a record whose fields have these values is read as: an object, if no quote is misplaced, there is a field for
-- each column, and they are UTF-8. The first of these that does not hold is the fault.
abbrev pub IsRead : EmptyField → List (List ℕ × FieldTypes) → List (Option (List ℕ)) → Result Value RowFault → Type 0
IsRead empty columns values (Ok value) = IsMisplaced values None × (length values ≡ length columns)
    × AllText (texts_of values) × (view value ≡ record_object empty columns (texts_of values))
IsRead empty columns values (Err (MisplacedQuote number)) = IsMisplaced values (Some number)
IsRead empty columns values (Err (Fields found expected)) = IsMisplaced values None
    × (found ≡ length values) × (expected ≡ length columns) × (found ≢ expected)
IsRead empty columns values (Err (NotUtf8 number)) = IsMisplaced values None
    × IsFirstNotUtf8 (texts_of values) number
