-- Errors as the code has them.
use Rattle.std.specs.Prelude.{◌≡◌, ◌++◌, ◌∷◌, List, [], map, string_bytes, Result, Ok, Err}
use Rattle.serde_json.specs.View.{number_view, view}
use Rattle.neldrafi_schema.specs.declared.error.ErrorKind.{ErrorKind}
use Rattle.neldrafi_schema.specs.declared.error.ErrorKind.TheVariants as kind
use Rattle.neldrafi_schema.specs.declared.error.Failure.{Failure}
use Rattle.neldrafi_schema.specs.declared.error.ValidationError.{ValidationError}
use Rattle.neldrafi_schema.specs.declared.error.ValidationError.TheVariants.{Text, Failed}
use Rattle.neldrafi_schema.specs.declared.error.Fault.{Fault}
use Rattle.neldrafi_schema.specs.declared.error.Fault.TheVariants.{Invalid, Memory}
use Rattle.neldrafi_schema.specs.Errors.{Kind, false_schema, not_of_types, not_among, not_equal_to, beyond, not_multiple}
use Rattle.neldrafi_schema.specs.Errors.{of_other_size, not_distinct, missing, unexpected_members}
use Rattle.neldrafi_schema.specs.Errors.{unexpected_items, negated, valid_by_none, valid_by_several}
use Rattle.neldrafi_schema.specs.Errors.{none_contained, unevaluated_members, unevaluated_items}
use Rattle.neldrafi_schema.specs.Errors.{Found, Error, found, of_text}

abbrev pub kind_of : ErrorKind → Kind
kind_of kind.FalseSchema = false_schema
kind_of (kind.«Type» ts) = not_of_types ts.items
kind_of (kind.Enum options) = not_among (map view options.items)
kind_of (kind.Constant expected) = not_equal_to (view expected)
kind_of (kind.Limit l n) = beyond l (number_view n)
kind_of (kind.MultipleOf n) = not_multiple (number_view n)
kind_of (kind.Size s n) = of_other_size s n
kind_of kind.UniqueItems = not_distinct
kind_of (kind.Required name) = missing (string_bytes name)
kind_of (kind.AdditionalProperties names) = unexpected_members (map string_bytes names.items)
kind_of (kind.AdditionalItems items) = unexpected_items (map view items.items)
kind_of (kind.Not schema) = negated (view schema)
kind_of (kind.NoneOf word) = valid_by_none (string_bytes word)
kind_of kind.OneOfSeveral = valid_by_several
kind_of kind.Contains = none_contained
kind_of (kind.UnevaluatedProperties names) = unevaluated_members (map string_bytes names.items)
kind_of (kind.UnevaluatedItems values) = unevaluated_items (map view values.items)

abbrev pub kinds_of : List ErrorKind → List Kind
kinds_of = map kind_of

abbrev pub failure_of : Failure → Found
failure_of f = record {
  kind = kind_of f.kind;
  instance = view f.instance;
  schema_path = f.schema_path;
  evaluation_path = f.evaluation_path;
  instance_path = f.instance_path;
  absolute = string_bytes f.absolute;
}

abbrev pub error_seen : ValidationError → Error
error_seen (Text e) = of_text (string_bytes e.absolute) e.error
error_seen (Failed f) = found (failure_of f)

abbrev pub errors_of : List ValidationError → List Error
errors_of es = map error_seen es

-- new is old, and behind it what is seen as these
pub record Grows {V A : Type 0} (seen : V → A) (these : List A → Type 0) (old new : List V) : Type 0 where
  pub more : List V
  pub longer : new ≡ old ++ more
  pub said : these (map seen more)

abbrev pub Appended : (List Error → Type 0) → List ValidationError → List ValidationError → Type 0
Appended = Grows error_seen

-- what `validate` answers: that there are no errors, or the first of them, or that it is out of
-- memory
abbrev pub IsAnswer : (List Error → Type 0) → Result (Unit {0}) Fault → Type 0
IsAnswer these (Ok x) = these []
IsAnswer these (Err (Invalid e)) = (later : List Error) × these (error_seen e ∷ later)
IsAnswer these (Err Memory) = Unit {0}
