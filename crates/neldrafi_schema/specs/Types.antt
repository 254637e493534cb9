-- The types of JSON values (Core 2020-12, section 4.2.1; Validation, section 6.1.1; draft 4,
-- section 3.5 of Core).
use Rattle.std.specs.Prelude.{ℕ, List, Bool, true, false, not, ◌||◌, ◌&&◌, Option, Some, None}
use Rattle.std.specs.Prelude.{codes, if◌then◌else◌, option_map, unwrap_or}
use Rattle.std.specs.Str.{bytes_eq}
use Rattle.serde_json.specs.Find.{as_number, is_float}
use Rattle.serde_json.specs.Data.{Num, Data, null, boolean, number}
use Rattle.serde_json.specs.Data.{string, array, object}
use Rattle.neldrafi_schema.specs.Numbers.{is_whole}
use Rattle.neldrafi_schema.specs.declared.json_type.JsonType.{JsonType}
use Rattle.neldrafi_schema.specs.declared.json_type.JsonType.TheVariants.{Null, Boolean, Integer}
use Rattle.neldrafi_schema.specs.declared.json_type.JsonType.TheVariants.{Number, String, Array}
use Rattle.neldrafi_schema.specs.declared.json_type.JsonType.TheVariants.{Object}

abbrev pub type_name : JsonType → List ℕ
type_name Null = codes "null"
type_name Boolean = codes "boolean"
type_name Integer = codes "integer"
type_name Number = codes "number"
type_name String = codes "string"
type_name Array = codes "array"
type_name Object = codes "object"

abbrev pub type_named : List ℕ → Option JsonType
type_named name =
    if bytes_eq name (type_name Null) then Some Null
    else (if bytes_eq name (type_name Boolean) then Some Boolean
    else (if bytes_eq name (type_name Integer) then Some Integer
    else (if bytes_eq name (type_name Number) then Some Number
    else (if bytes_eq name (type_name String) then Some String
    else (if bytes_eq name (type_name Array) then Some Array
    else (if bytes_eq name (type_name Object) then Some Object else None))))))

-- of a number, whether it is of a type
abbrev pub is_number_of : JsonType → Num → Bool
is_number_of Integer x = is_whole x
is_number_of Number x = true
is_number_of other x = false

abbrev pub is_of_type : JsonType → Data → Bool
is_of_type Null null = true
is_of_type Boolean (boolean b) = true
is_of_type type_ (number x) = is_number_of type_ x
is_of_type String (string s) = true
is_of_type Array (array ds) = true
is_of_type Object (object ms) = true
is_of_type other d = false

abbrev pub is_float_data : Data → Bool
is_float_data d = unwrap_or (option_map is_float (as_number d)) false

abbrev pub is_integer_type : JsonType → Bool
is_integer_type Integer = true
is_integer_type other = false

-- The same, where no float is an integer: so it is in draft 4, unless they count.
abbrev pub counts_as : Bool → JsonType → Data → Bool
counts_as floats t d = is_of_type t d && (floats || not (is_integer_type t && is_float_data d))
