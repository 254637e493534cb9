-- What kinds of values there are, and which of them a field of CSV spells.
use Rattle.std.specs.Prelude.{◌≡◌, ℕ, List, Bool, true, false, IsTrue, IsSome, ◌||◌, ◌==◌, codes}
use Rattle.std.specs.List.{list_any}
use Rattle.std.specs.Str.{byte, bytes_eq}
use Rattle.json.specs.Print.{IsNumber}
use Rattle.serde_json.specs.Read.{number_of}
use Rattle.neldrafi_infer.specs.declared.kinds.Kind.{Kind}
use Rattle.neldrafi_infer.specs.declared.kinds.Kind.TheVariants as kind

abbrev pub is_null : Kind → Bool
is_null kind.Null = true
is_null _ = false

-- a string, or any field
abbrev pub is_text : Kind → Bool
is_text kind.String = true
is_text kind.BooleanField = true
is_text kind.IntegerField = true
is_text kind.NumberField = true
is_text _ = false

-- `true` or `false` (RFC 8259, section 3)
abbrev pub is_boolean : List ℕ → Bool
is_boolean text = bytes_eq text (codes "true") || bytes_eq text (codes "false")

-- a number (RFC 8259, section 6) within the range of an `f64`
abbrev pub IsNumeral : List ℕ → Type 0
IsNumeral text = IsNumber text × IsSome (number_of text)

-- the bytes that begin a fraction or an exponent
abbrev pub begins_part : ℕ → Bool
begins_part c = c == byte "." || c == byte "e" || c == byte "E"

-- a number has a fraction or an exponent
abbrev pub has_part : List ℕ → Bool
has_part text = list_any begins_part text

-- the kind of a field of this text
abbrev pub Spells : Kind → List ℕ → Type 0
Spells kind.BooleanField text = IsTrue (is_boolean text)
Spells kind.IntegerField text = IsNumeral text × (has_part text ≡ false)
Spells kind.NumberField text = IsNumeral text × IsTrue (has_part text)
Spells kind.String text = (is_boolean text ≡ false) × (IsNumeral text → ⊥)
Spells _ text = ⊥
