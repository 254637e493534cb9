-- What may hold of values that were seen, and which of them do not fit.
use Rattle.std.specs.Prelude.{ℕ, List, Bool, true, false, IsTrue, not, codes}
use Rattle.std.specs.Str.{chars}
use Rattle.strkw_formats.specs.Formats.{IsOfBuiltin}
use Rattle.strkw_formats.specs.declared.builtin.BuiltinFormat.{BuiltinFormat}
use Rattle.strkw_formats.specs.declared.builtin.BuiltinFormat.TheVariants as check
use Rattle.neldrafi_infer.specs.Kinds.{is_null, is_text}
use Rattle.neldrafi_infer.specs.declared.kinds.Kind.{Kind}
use Rattle.neldrafi_infer.specs.declared.kinds.Kind.TheVariants as kind
use Rattle.neldrafi_infer.specs.declared.hypotheses.Format.{Format}
use Rattle.neldrafi_infer.specs.declared.hypotheses.Format.TheVariants.{Date, Time, DateTime, Duration, Uuid, Ipv4, Ipv6, Uri}
use Rattle.neldrafi_infer.specs.declared.hypotheses.ValueType.{ValueType}
use Rattle.neldrafi_infer.specs.declared.hypotheses.ValueType.TheVariants as of
use Rattle.neldrafi_infer.specs.declared.hypotheses.Hypothesis.{Hypothesis}
use Rattle.neldrafi_infer.specs.declared.hypotheses.Hypothesis.TheVariants.{OfType, OfFormat}

-- a value that was seen: its line, its kind, and its text
pub record Seen : Type 0 where
  pub line : ℕ
  pub kind : Kind
  pub text : List ℕ

abbrev pub seen : ℕ → Kind → List ℕ → Seen
seen line kind text = record { line = line; kind = kind; text = text }

abbrev pub type_name : ValueType → List ℕ
type_name of.Boolean = codes "boolean"
type_name of.Integer = codes "integer"
type_name of.Number = codes "number"
type_name of.String = codes "string"
type_name of.Array = codes "array"
type_name of.Object = codes "object"

abbrev pub is_boolean_kind : Kind → Bool
is_boolean_kind kind.Boolean = true
is_boolean_kind kind.BooleanField = true
is_boolean_kind _ = false

abbrev pub is_integer_kind : Kind → Bool
is_integer_kind kind.Integer = true
is_integer_kind kind.IntegerField = true
is_integer_kind _ = false

abbrev pub is_number_kind : Kind → Bool
is_number_kind kind.Integer = true
is_number_kind kind.Number = true
is_number_kind kind.IntegerField = true
is_number_kind kind.NumberField = true
is_number_kind _ = false

abbrev pub is_array_kind : Kind → Bool
is_array_kind kind.Array = true
is_array_kind _ = false

abbrev pub is_object_kind : Kind → Bool
is_object_kind kind.Object = true
is_object_kind _ = false

-- a value of the kind is of the type (Validation 2020-12, section 6.1.1); any field is a string too
abbrev pub is_of_type : ValueType → Kind → Bool
is_of_type of.Boolean k = is_boolean_kind k
is_of_type of.Integer k = is_integer_kind k
is_of_type of.Number k = is_number_kind k
is_of_type of.String k = is_text k
is_of_type of.Array k = is_array_kind k
is_of_type of.Object k = is_object_kind k

abbrev pub builtin : Format → BuiltinFormat
builtin Date = check.Date
builtin Time = check.Time
builtin DateTime = check.DateTime
builtin Duration = check.Duration
builtin Uuid = check.Uuid
builtin Ipv4 = check.Ipv4
builtin Ipv6 = check.Ipv6
builtin Uri = check.Uri

-- a type is said of values that are not null, and a format of texts
abbrev pub is_about : Hypothesis → Kind → Bool
is_about (OfType t) k = not (is_null k)
is_about (OfFormat f) k = is_text k

abbrev pub Fits : Hypothesis → Seen → Type 0
Fits (OfType t) s = IsTrue (is_of_type t s.kind)
Fits (OfFormat f) s = IsOfBuiltin (builtin f) (chars s.text)

-- the hypothesis is about the value, which does not fit
abbrev pub IsMisfit : Hypothesis → Seen → Type 0
IsMisfit h s = IsTrue (is_about h s.kind) × (Fits h s → ⊥)

-- the value fits, where the hypothesis is about it
abbrev pub IsFit : Hypothesis → Seen → Type 0
IsFit h s = IsTrue (is_about h s.kind) → Fits h s
