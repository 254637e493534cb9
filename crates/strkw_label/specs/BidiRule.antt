-- The Bidi rule (RFC 5893 section 2), over the tables of Unicode 18.0. A label is a list of
-- characters.
use Rattle.std.specs.Prelude.{◌≡◌, ℕ, ◌<◌, ◌⊎◌, Bool, true, false, ◌||◌, List, length, slice_index}
use Rattle.std.specs.Prelude.{IsTrue}
use Rattle.std.specs.List.{AllPass, list_any}
use Rattle.ucd_bidi.specs.BidiClass.{bidi_class}
use Rattle.ucd_bidi.specs.declared.BidiClass.{BidiClass}
use Rattle.ucd_bidi.specs.declared.BidiClass.TheVariants.{ArabicLetter, ArabicNumber}
use Rattle.ucd_bidi.specs.declared.BidiClass.TheVariants.{BoundaryNeutral, CommonSeparator}
use Rattle.ucd_bidi.specs.declared.BidiClass.TheVariants.{EuropeanNumber, EuropeanSeparator}
use Rattle.ucd_bidi.specs.declared.BidiClass.TheVariants.{EuropeanTerminator, LeftToRight}
use Rattle.ucd_bidi.specs.declared.BidiClass.TheVariants.{NonspacingMark, OtherNeutral, RightToLeft}

-- ---- classes of characters, by the property Bidi_Class

-- L, with which a left-to-right label begins
abbrev pub is_left_to_right : BidiClass → Bool
is_left_to_right LeftToRight = true
is_left_to_right _ = false

-- R or AL, with which a right-to-left label begins
abbrev pub begins_right_to_left : BidiClass → Bool
begins_right_to_left RightToLeft = true
begins_right_to_left ArabicLetter = true
begins_right_to_left _ = false

-- R, AL or AN, one of which makes a name a Bidi domain name (section 1.4)
abbrev pub is_right_to_left : BidiClass → Bool
is_right_to_left ArabicNumber = true
is_right_to_left class = begins_right_to_left class

abbrev pub is_european_number : BidiClass → Bool
is_european_number EuropeanNumber = true
is_european_number _ = false

abbrev pub is_arabic_number : BidiClass → Bool
is_arabic_number ArabicNumber = true
is_arabic_number _ = false

-- EN, ES, CS, ET, ON, BN or NSM, which stand in labels of both directions
abbrev pub is_of_both_directions : BidiClass → Bool
is_of_both_directions EuropeanNumber = true
is_of_both_directions EuropeanSeparator = true
is_of_both_directions CommonSeparator = true
is_of_both_directions EuropeanTerminator = true
is_of_both_directions OtherNeutral = true
is_of_both_directions BoundaryNeutral = true
is_of_both_directions NonspacingMark = true
is_of_both_directions _ = false

-- the label ends with a character of such a class, followed by zero or more NSM
pub record EndsIn (ends : BidiClass → Bool) (label : List ℕ) : Type 0 where
  pub at : ℕ
  pub within : at < length label
  pub end : IsTrue (ends (bidi_class (slice_index label at)))
  pub marks : (m : ℕ) → at < m → m < length label
      → bidi_class (slice_index label m) ≡ NonspacingMark

-- ---- the six conditions

-- 2, 3 and 4, of a right-to-left label
pub record KeepsRightToLeft (label : List ℕ) : Type 0 where
  -- only R, AL, AN, EN, ES, CS, ET, ON, BN and NSM
  pub classes : AllPass
      (λ c. is_right_to_left (bidi_class c) || is_of_both_directions (bidi_class c)) label
  -- the end is R, AL, EN or AN, and then zero or more NSM
  pub end : EndsIn (λ class. is_right_to_left class || is_european_number class) label
  -- EN and AN not both
  pub one_kind_of_number : IsTrue (list_any (λ c. is_european_number (bidi_class c)) label)
      → IsTrue (list_any (λ c. is_arabic_number (bidi_class c)) label) → ⊥

-- 5 and 6, of a left-to-right label
pub record KeepsLeftToRight (label : List ℕ) : Type 0 where
  -- only L, EN, ES, CS, ET, ON, BN and NSM
  pub classes : AllPass
      (λ c. is_left_to_right (bidi_class c) || is_of_both_directions (bidi_class c)) label
  -- the end is L or EN, and then zero or more NSM
  pub end : EndsIn (λ class. is_left_to_right class || is_european_number class) label

-- 1: the first character is L, R or AL, and tells the direction
abbrev pub KeepsBidiRule : List ℕ → Type 0
KeepsBidiRule label =
    let first = bidi_class (slice_index label 0) in
    (IsTrue (is_left_to_right first) × KeepsLeftToRight label)
    ⊎ (IsTrue (begins_right_to_left first) × KeepsRightToLeft label)

-- a label with a character R, AL or AN (section 1.4)
abbrev pub is_right_to_left_label : List ℕ → Bool
is_right_to_left_label label = list_any (λ c. is_right_to_left (bidi_class c)) label
