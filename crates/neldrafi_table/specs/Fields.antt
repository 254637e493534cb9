-- The values of fields.
use Rattle.std.specs.Prelude.{◌==◌, ◌-◌, ℕ, List, [], ◌∷◌, Bool, true, false, ◌&&◌, ◌||◌, Option, Some, None, codes}
use Rattle.std.specs.Prelude.{if◌then◌else◌, length, option_and_then, option_map, slice_get}
use Rattle.std.specs.Char.{is_ascii_digit}
use Rattle.std.specs.Option.{option_map_or, option_or, unwrap_or}
use Rattle.std.specs.Str.{byte, bytes_eq}
use Rattle.serde_json.specs.Data.{Data, null, boolean, number, string}
use Rattle.serde_json.specs.Find.{as_number}
use Rattle.serde_json.specs.Read.{read}
use Rattle.neldrafi_table.specs.declared.columns.FieldTypes.{FieldTypes}
use Rattle.neldrafi_table.specs.declared.forms.EmptyField.{EmptyField}
use Rattle.neldrafi_table.specs.declared.forms.EmptyField.TheVariants.{Absent, Text}

-- `true` or `false` (RFC 8259, section 3), if these types have the Booleans
abbrev pub boolean_value : FieldTypes → List ℕ → Option Data
boolean_value types text = if types.boolean && bytes_eq text (codes "true") then Some (boolean true)
    else (if types.boolean && bytes_eq text (codes "false") then Some (boolean false) else None)

abbrev pub begins_number : ℕ → Bool
begins_number c = c == byte "-" || is_ascii_digit c

-- no white space is around a JSON text that begins with a minus or a digit and ends with a digit
abbrev pub is_bare : List ℕ → Bool
is_bare text = option_map_or begins_number (slice_get text 0) false
    && option_map_or is_ascii_digit (slice_get text (length text - 1)) false

-- a number (RFC 8259, section 6), if these types have numbers
abbrev pub number_value : FieldTypes → List ℕ → Option Data
number_value types text = if types.number && is_bare text
    then option_map number (option_and_then as_number (read text)) else None

-- the Boolean or number that a text spells, if these types have it
abbrev pub scalar_value : FieldTypes → List ℕ → Option Data
scalar_value types text = option_or (boolean_value types text) (number_value types text)

-- an empty field is null if its types have that; otherwise it is absent, or the empty string
abbrev pub empty_value : EmptyField → FieldTypes → Option Data
empty_value Absent types = if types.null then Some null else None
empty_value Text types = if types.null then Some null else Some (string [])

-- the value of a field, which is a string if it is nothing else
abbrev pub field_value : EmptyField → FieldTypes → List ℕ → Option Data
field_value empty types [] = empty_value empty types
field_value empty types (c ∷ cs) = Some (unwrap_or (scalar_value types (c ∷ cs)) (string (c ∷ cs)))
