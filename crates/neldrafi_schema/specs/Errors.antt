-- What an error says: its kind, the instance, and where both stand.
use Rattle.std.specs.Prelude.{ℕ, List, [], ◌∷◌, ◌++◌, map, Bool, false, ◌||◌, ◌==◌, codes}
use Rattle.std.specs.Prelude.{decimal, if◌then◌else◌, length, suc, zero}
use Rattle.std.specs.List.{list_any}
use Rattle.serde_json.specs.Data.{Data, Num, number, string}
use Rattle.serde_json.specs.Find.{is_float}
use Rattle.serde_json.specs.Written.{compact_text, has_float}
use Rattle.strkw_report.specs.Kinds.{Report, text_of as report_text}
use Rattle.strkw_report.specs.Quoting.{quoted_text}
use Rattle.neldrafi_schema.specs.declared.json_type.JsonType.{JsonType}
use Rattle.neldrafi_schema.specs.declared.limits.Limit.{Limit}
use Rattle.neldrafi_schema.specs.declared.limits.Limit.TheVariants as limit
use Rattle.neldrafi_schema.specs.declared.limits.Size.{Size}
use Rattle.neldrafi_schema.specs.declared.limits.Size.TheVariants as size
use Rattle.neldrafi_schema.specs.Types.{type_name}

pub data Kind : Type 0 where
  false_schema : Kind
  not_of_types : List JsonType → Kind
  not_among : List Data → Kind
  not_equal_to : Data → Kind
  beyond : Limit → Num → Kind
  not_multiple : Num → Kind
  of_other_size : Size → ℕ → Kind
  not_distinct : Kind
  missing : List ℕ → Kind
  unexpected_members : List (List ℕ) → Kind
  unexpected_items : List Data → Kind
  negated : Data → Kind
  -- of `anyOf` or `oneOf`, by the keyword's name
  valid_by_none : List ℕ → Kind
  valid_by_several : Kind
  none_contained : Kind
  unevaluated_members : List (List ℕ) → Kind
  unevaluated_items : List Data → Kind

-- the locations are JSON pointers, and the absolute one a URI; that of evaluation has the way through
-- references
pub record Found : Type 0 where
  pub kind : Kind
  pub instance : Data
  pub schema_path : List ℕ
  pub evaluation_path : List ℕ
  pub instance_path : List ℕ
  pub absolute : List ℕ

pub data Error : Type 0 where
  found : Found → Error
  -- of the string keyword at an absolute location, as `strkw_keywords` reports it
  of_text : List ℕ → Report → Error

-- ---- what an error says of places

abbrev pub instance_of : Error → Data
instance_of (found f) = f.instance
instance_of (of_text at r) = string r.instance

abbrev pub instance_path_of : Error → List ℕ
instance_path_of (found f) = f.instance_path
instance_path_of (of_text at r) = r.instance_path

abbrev pub schema_path_of : Error → List ℕ
schema_path_of (found f) = f.schema_path
schema_path_of (of_text at r) = r.schema_path

abbrev pub evaluation_path_of : Error → List ℕ
evaluation_path_of (found f) = f.evaluation_path
evaluation_path_of (of_text at r) = r.evaluation_path

abbrev pub absolute_of : Error → List ℕ
absolute_of (found f) = f.absolute
absolute_of (of_text at r) = at

-- ---- texts

-- what stands between a text and those behind it, by how many there are
abbrev pub separator : List ℕ → ℕ → List ℕ
separator last zero = []
separator last (suc zero) = last
separator last (suc (suc n)) = codes ", "

-- texts one behind the other, the last two with this between them, and others with a comma
abbrev pub listed : List ℕ → List (List ℕ) → List ℕ
listed last [] = []
listed last (text ∷ others) = text ++ separator last (length others) ++ listed last others

abbrev pub with_commas : List (List ℕ) → List ℕ
with_commas = listed (codes ", ")

abbrev pub quoted_name : JsonType → List ℕ
quoted_name type_ = codes "\"" ++ type_name type_ ++ codes "\""

abbrev pub types_text : List JsonType → List ℕ
types_text ts = (if length ts == 1 then codes " is not of type " else codes " is not of types ")
    ++ with_commas (map quoted_name ts)

abbrev pub limit_text : Limit → List ℕ
limit_text limit.Minimum = codes " is less than the minimum of "
limit_text limit.ExclusiveMinimum = codes " is less than or equal to the minimum of "
limit_text limit.Maximum = codes " is greater than the maximum of "
limit_text limit.ExclusiveMaximum = codes " is greater than or equal to the maximum of "

abbrev pub counted : ℕ → List ℕ → List ℕ → List ℕ
counted n one several = decimal n ++ (if n == 1 then one else several)

abbrev pub size_text : Size → ℕ → List ℕ
size_text size.MinItems n = codes " has less than " ++ counted n (codes " item") (codes " items")
size_text size.MaxItems n = codes " has more than " ++ counted n (codes " item") (codes " items")
size_text size.MinProperties n = codes " has less than "
    ++ counted n (codes " property") (codes " properties")
size_text size.MaxProperties n = codes " has more than "
    ++ counted n (codes " property") (codes " properties")

-- what stands behind names or items that are not allowed
abbrev pub unexpected_text : List (List ℕ) → List ℕ
unexpected_text texts = with_commas texts
    ++ (if length texts == 1 then codes " was unexpected)" else codes " were unexpected)")

abbrev pub in_quotes : List ℕ → List ℕ
in_quotes name = codes "'" ++ name ++ codes "'"

-- what is said of an error of this kind, x being the compact text of the instance
abbrev pub message : Kind → List ℕ → List ℕ
message false_schema x = codes "False schema does not allow " ++ x
message (not_of_types ts) x = x ++ types_text ts
message (not_among ds) x = x ++ codes " is not one of " ++ listed (codes " or ") (map compact_text ds)
message (not_equal_to d) x = compact_text d ++ codes " was expected"
message (beyond l n) x = x ++ limit_text l ++ compact_text (number n)
message (not_multiple n) x = x ++ codes " is not a multiple of " ++ compact_text (number n)
message (of_other_size s n) x = x ++ size_text s n
message not_distinct x = x ++ codes " has non-unique elements"
message (missing name) x = quoted_text name ++ codes " is a required property"
message (unexpected_members names) x = codes "Additional properties are not allowed ("
    ++ unexpected_text (map in_quotes names)
message (unexpected_items ds) x = codes "Additional items are not allowed ("
    ++ unexpected_text (map compact_text ds)
message (negated schema) x = compact_text schema ++ codes " is not allowed for " ++ x
message (valid_by_none name) x = x
    ++ codes " is not valid under any of the schemas listed in the '" ++ name ++ codes "' keyword"
message valid_by_several x = x
    ++ codes " is valid under more than one of the schemas listed in the 'oneOf' keyword"
message none_contained x = codes "None of " ++ x ++ codes " are valid under the given schema"
message (unevaluated_members names) x = codes "Unevaluated properties are not allowed ("
    ++ unexpected_text (map in_quotes names)
message (unevaluated_items ds) x = codes "Unevaluated items are not allowed ("
    ++ unexpected_text (map compact_text ds)

abbrev pub text_of : Error → List ℕ
text_of (found f) = message f.kind (compact_text f.instance)
text_of (of_text at r) = report_text r

-- a float has no stated digits
abbrev pub kind_holds_float : Kind → Bool
kind_holds_float (not_among ds) = list_any has_float ds
kind_holds_float (not_equal_to d) = has_float d
kind_holds_float (beyond l n) = is_float n
kind_holds_float (not_multiple n) = is_float n
kind_holds_float (unexpected_items ds) = list_any has_float ds
kind_holds_float (unevaluated_items ds) = list_any has_float ds
kind_holds_float (negated schema) = has_float schema
kind_holds_float other = false

-- whether the text of an error prints one
abbrev pub prints_float : Error → Bool
prints_float (found f) = has_float f.instance || kind_holds_float f.kind
prints_float (of_text at r) = false
