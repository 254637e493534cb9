-- Which values the fields of a column may be, by the `type` of its schema in `properties`.
use Rattle.std.specs.Prelude.{ℕ, List, Bool, false, ◌||◌, Option, codes, map}
use Rattle.std.specs.Prelude.{[], ◌∷◌, Some, None, ◌&&◌, not, if◌then◌else◌, is_none, is_some, option_and_then, string_bytes}
use Rattle.std.specs.Option.{option_map_or, option_or}
use Rattle.std.specs.Str.{bytes_eq}
use Rattle.serde_json.specs.Data.{Data, boolean, string, array, Items, no_items, item}
use Rattle.serde_json.specs.Find.{as_array, as_str, get}
use Rattle.neldrafi_table.specs.Keywords.{keyword_of}
use Rattle.neldrafi_table.specs.declared.columns.Column.{Column}
use Rattle.neldrafi_table.specs.declared.columns.FieldTypes.{FieldTypes}

-- no value beside strings
abbrev pub no_types : FieldTypes
no_types = record { null = false; boolean = false; number = false }

-- one of the items is this string
abbrev pub has_string : List ℕ → Items → Bool
has_string name no_items = false
has_string name (item d ds) = option_map_or (bytes_eq name) (as_str d) false || has_string name ds

-- the value of `type`, a name or an array of names, names this type (Validation 2020-12, section 6.1.1)
abbrev pub names_type : List ℕ → Data → Bool
names_type name (string one) = bytes_eq one name
names_type name (array several) = has_string name several
names_type name _ = false

-- the values that it names beside strings
abbrev pub types_named : Data → FieldTypes
types_named value = record {
  null = names_type (codes "null") value;
  boolean = names_type (codes "boolean") value;
  number = names_type (codes "number") value || names_type (codes "integer") value;
}

-- the value of `type` of the column of this name, by the schema that the document is
abbrev pub column_type : Data → List ℕ → Option Data
column_type document name = option_and_then (keyword_of 64 document (codes "type"))
    (option_and_then (get name) (keyword_of 64 document (codes "properties") document))

-- .. and the values that it names; without a `type` a field is a string
abbrev pub column_types : Data → List ℕ → FieldTypes
column_types document name = option_map_or types_named (column_type document name) no_types

-- the columns of these names, each with the values that its `type` names
abbrev pub columns_by : Data → List (List ℕ) → List (List ℕ × FieldTypes)
columns_by document names = map (λ name. (name, column_types document name)) names

-- what a column is, by its name
abbrev pub columns_seen : List Column → List (List ℕ × FieldTypes)
columns_seen columns = map (λ c. (string_bytes c.name, c.types)) columns

-- ---- columns that a file lacks, or may not have

-- one of the columns has this name
abbrev pub is_among : List (List ℕ × FieldTypes) → List ℕ → Bool
is_among [] name = false
is_among (c ∷ cs) name = bytes_eq c.0 name || is_among cs name

-- a name that no column has
abbrev pub unmet : List (List ℕ × FieldTypes) → Option (List ℕ) → Option (List ℕ)
unmet columns None = None
unmet columns (Some name) = if is_among columns name then None else Some name

-- the first of the items that is a string that no column has as its name
abbrev pub first_missing : List (List ℕ × FieldTypes) → Items → Option (List ℕ)
first_missing columns no_items = None
first_missing columns (item d ds) = option_or (unmet columns (as_str d)) (first_missing columns ds)

-- the first name that `required` lists (Validation 2020-12, section 6.5.3) and no column has
abbrev pub missing_column : Data → List (List ℕ × FieldTypes) → Option (List ℕ)
missing_column document columns = option_and_then (first_missing columns)
    (option_and_then as_array (keyword_of 64 document (codes "required") document))

-- a schema has a property of this name
abbrev pub has_property : Data → List ℕ → Bool
has_property schema name = is_some (option_and_then (get name) (get (codes "properties") schema))

-- the name of the first of the columns that is no property
abbrev pub first_unexpected : Data → List (List ℕ × FieldTypes) → Option (List ℕ)
first_unexpected schema [] = None
first_unexpected schema (c ∷ cs) = if has_property schema c.0 then first_unexpected schema cs else Some c.0

abbrev pub is_false : Data → Bool
is_false (boolean b) = not b
is_false d = false

-- the schema has no properties but those that it names (Core 2020-12, section 10.3.2.3)
abbrev pub is_closed : Data → Bool
is_closed schema = is_none (get (codes "$ref") schema) && is_none (get (codes "patternProperties") schema)
    && option_map_or is_false (get (codes "additionalProperties") schema) false

-- the name of the first column that the schema does not allow
abbrev pub unexpected_column : Data → List (List ℕ × FieldTypes) → Option (List ℕ)
unexpected_column document columns = if is_closed document then first_unexpected document columns else None
