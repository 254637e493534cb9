-- The derived property of a code point (RFC 5892), over the tables of Unicode 18.0. The numbers in
-- parentheses are the RFC's sections. The class BackwardCompatible (2.7) is empty.
use Rattle.std.specs.Prelude.{ℕ, Bool, true, false, not, ◌&&◌, ◌||◌, ◌==◌, [], ◌∷◌, if◌then◌else◌}
use Rattle.std.specs.Int.{is_in_range}
use Rattle.std.specs.Str.{bytes_eq}
use Rattle.caseless.specs.Caseless.{default_case_fold}
use Rattle.unicode_normalization.specs.Forms.{nfkc}
use Rattle.ucd_category.specs.GeneralCategory.{general_category}
use Rattle.ucd_category.specs.declared.GeneralCategory.{GeneralCategory}
use Rattle.ucd_category.specs.declared.GeneralCategory.TheVariants.{UppercaseLetter}
use Rattle.ucd_category.specs.declared.GeneralCategory.TheVariants.{LowercaseLetter}
use Rattle.ucd_category.specs.declared.GeneralCategory.TheVariants.{ModifierLetter, OtherLetter}
use Rattle.ucd_category.specs.declared.GeneralCategory.TheVariants.{NonspacingMark, SpacingMark}
use Rattle.ucd_category.specs.declared.GeneralCategory.TheVariants.{DecimalNumber, Unassigned}
use Rattle.ucd_derived.specs.Binary.{is_default_ignorable_code_point}
use Rattle.ucd_props.specs.Binary.{is_join_control, is_noncharacter_code_point, is_white_space}
use Rattle.ucd_east_asian.specs.HangulSyllableType.{hangul_syllable_type}
use Rattle.ucd_east_asian.specs.declared.HangulSyllableType.{HangulSyllableType}
use Rattle.ucd_east_asian.specs.declared.HangulSyllableType.TheVariants.{LeadingJamo, VowelJamo}
use Rattle.ucd_east_asian.specs.declared.HangulSyllableType.TheVariants.{TrailingJamo}
use Rattle.strkw_label.specs.declared.properties.DerivedProperty.{DerivedProperty}
use Rattle.strkw_label.specs.declared.properties.DerivedProperty.TheVariants.{ProtocolValid}
use Rattle.strkw_label.specs.declared.properties.DerivedProperty.TheVariants.{ContextJ}
use Rattle.strkw_label.specs.declared.properties.DerivedProperty.TheVariants.{ContextO}
use Rattle.strkw_label.specs.declared.properties.DerivedProperty.TheVariants.{Disallowed}
use Rattle.strkw_label.specs.declared.properties.DerivedProperty.TheVariants as property

-- (2.1) LetterDigits: General_Category Ll, Lu, Lo, Nd, Lm, Mn or Mc
abbrev pub is_letter_digit_category : GeneralCategory → Bool
is_letter_digit_category LowercaseLetter = true
is_letter_digit_category UppercaseLetter = true
is_letter_digit_category OtherLetter = true
is_letter_digit_category DecimalNumber = true
is_letter_digit_category ModifierLetter = true
is_letter_digit_category NonspacingMark = true
is_letter_digit_category SpacingMark = true
is_letter_digit_category _ = false

-- (2.2) Unstable: not equal to itself after NFKC, case folding and NFKC
unfoldable pub is_unstable : ℕ → Bool
is_unstable c = not (bytes_eq (nfkc (default_case_fold (nfkc (c ∷ [])))) (c ∷ []))

-- (2.3) IgnorableProperties
abbrev pub has_ignorable_property : ℕ → Bool
has_ignorable_property c = is_default_ignorable_code_point c || is_white_space c
    || is_noncharacter_code_point c

-- (2.4) IgnorableBlocks: Combining Diacritical Marks for Symbols, Musical Symbols, and Ancient
-- Greek Musical Notation
abbrev pub is_in_ignorable_block : ℕ → Bool
is_in_ignorable_block c = is_in_range 0x20D0 0x20FF c || is_in_range 0x1D100 0x1D1FF c
    || is_in_range 0x1D200 0x1D24F c

-- (2.5) LDH: the hyphen, digits, and small letters of ASCII
abbrev pub is_ldh : ℕ → Bool
is_ldh c = c == 0x2D || is_in_range 0x30 0x39 c || is_in_range 0x61 0x7A c

-- (2.6) Exceptions that are PVALID
abbrev pub is_valid_exception : ℕ → Bool
is_valid_exception c = c == 0xDF || c == 0x3C2 || c == 0x6FD || c == 0x6FE || c == 0xF0B
    || c == 0x3007

-- (2.6) Exceptions that are CONTEXTO
abbrev pub is_context_exception : ℕ → Bool
is_context_exception c = c == 0xB7 || c == 0x375 || c == 0x5F3 || c == 0x5F4 || c == 0x30FB
    || is_in_range 0x660 0x669 c || is_in_range 0x6F0 0x6F9 c

-- (2.6) Exceptions that are DISALLOWED
abbrev pub is_disallowed_exception : ℕ → Bool
is_disallowed_exception c = c == 0x640 || c == 0x7FA || c == 0x302E || c == 0x302F
    || is_in_range 0x3031 0x3035 c || c == 0x303B

-- (2.9) OldHangulJamo: Hangul_Syllable_Type L, V or T
abbrev pub is_old_jamo_type : HangulSyllableType → Bool
is_old_jamo_type LeadingJamo = true
is_old_jamo_type VowelJamo = true
is_old_jamo_type TrailingJamo = true
is_old_jamo_type _ = false

-- (2.10) Unassigned: General_Category Cn, and no noncharacter
abbrev pub is_unassigned_category : GeneralCategory → Bool
is_unassigned_category Unassigned = true
is_unassigned_category _ = false

abbrev pub is_unassigned : ℕ → Bool
is_unassigned c = is_unassigned_category (general_category c) && not (is_noncharacter_code_point c)

-- (3) what the classes 2.2 to 2.4 and 2.9 disallow
abbrev pub is_disallowed_class : ℕ → Bool
is_disallowed_class c = is_unstable c || has_ignorable_property c || is_in_ignorable_block c
    || is_old_jamo_type (hangul_syllable_type c)

-- (3) the property: the first class that has the code point decides
unfoldable pub derived_property : ℕ → DerivedProperty
derived_property c =
    if is_valid_exception c then ProtocolValid
    else if is_context_exception c then ContextO
    else if is_disallowed_exception c then Disallowed
    else if is_unassigned c then property.Unassigned
    else if is_ldh c then ProtocolValid
    else if is_join_control c then ContextJ
    else if is_disallowed_class c then Disallowed
    else if is_letter_digit_category (general_category c) then ProtocolValid
    else Disallowed

-- PVALID, or valid where a contextual rule is satisfied
abbrev pub is_permitted : DerivedProperty → Bool
is_permitted ProtocolValid = true
is_permitted ContextJ = true
is_permitted ContextO = true
is_permitted _ = false
