-- Internationalised host names (RFC 5890 section 2.3.2.3), as lists of characters.
use Rattle.std.specs.Prelude.{◌≡◌, ◌≢◌, ℕ, ◌-◌, ◌≤◌, ◌⊎◌, Bool, false, ◌||◌, ◌==◌, List, ◌++◌}
use Rattle.std.specs.Prelude.{length, map, All, codes, slice_index, IsTrue, if◌then◌else◌}
use Rattle.std.specs.Char.{IsScalar, is_ascii, to_ascii_lowercase}
use Rattle.std.specs.List.{AllZip, join_with_byte, list_all, list_any, slice_split}
use Rattle.std.specs.Str.{byte}
use Rattle.idna.specs.Punycode.{encode}
use Rattle.ucd_category.specs.GeneralCategory.{general_category}
use Rattle.unicode_normalization.specs.Forms.{IsInForm, Nfc}
use Rattle.strkw_net.specs.HostName.{IsLabel}
use Rattle.strkw_label.specs.BidiRule.{KeepsBidiRule, is_right_to_left_label}
use Rattle.strkw_label.specs.ContextRules.{FitsContext}
use Rattle.strkw_label.specs.DerivedProperty.{derived_property, is_permitted}
use Rattle.strkw_label.specs.LabelRules.{is_mark}

-- hyphens in third and fourth place (RFC 5891 section 4.2.3.1)
abbrev pub HasReservedHyphens : List ℕ → Type 0
HasReservedHyphens label = (slice_index label 2 ≡ byte "-") × (slice_index label 3 ≡ byte "-")

-- of ASCII characters alone
abbrev pub is_all_ascii : List ℕ → Bool
is_all_ascii label = list_all is_ascii label

-- a U-label (RFC 5890 section 2.3.2.1), by RFC 5891 section 4.2
pub record IsUnicodeLabel (label : List ℕ) : Type 0 where
  -- a character past ASCII, in the normal form NFC (RFC 5890 section 2.3.2.1)
  pub beyond_ascii : is_all_ascii label ≡ false
  pub normal : IsInForm Nfc label
  -- 4.2.2: no character DISALLOWED or UNASSIGNED
  pub permitted : All (λ c. IsTrue (is_permitted (derived_property c))) label
  -- 4.2.3.1: no hyphen first or last, and not both third and fourth
  pub first : slice_index label 0 ≢ byte "-"
  pub last : slice_index label (length label - 1) ≢ byte "-"
  pub reserved : HasReservedHyphens label → ⊥
  -- 4.2.3.2: no combining mark first
  pub no_leading_mark : is_mark (general_category (slice_index label 0)) ≡ false
  -- 4.2.3.3: the contextual rules
  pub context : FitsContext label

-- the A-label that a text would have (RFC 5890 section 2.3.2.1)
abbrev pub a_label : List ℕ → List ℕ
a_label label = codes "xn--" ++ encode label

-- a U-label by itself, whatever name it stands in: a character that runs from right to left calls
-- for the Bidi rule, and the A-label is a label of the DNS (RFC 5890 sections 2.3.2.1 and 2.3.1)
pub record IsULabel (label : List ℕ) : Type 0 where
  pub rules : IsUnicodeLabel label
  pub bidi : IsTrue (is_right_to_left_label label) → KeepsBidiRule label
  pub size : length (a_label label) ≤ 63

-- an NR-LDH label (RFC 5890 section 2.3.2.2)
pub record IsPlainLabel (label : List ℕ) : Type 0 where
  pub ascii : IsLabel label
  pub reserved : HasReservedHyphens label → ⊥

-- `label` stands for the label with the Unicode form `form`: an NR-LDH label for itself, a U-label
-- for itself, and an A-label in any letter case for its U-label. An A-label has at most 63
-- characters (RFC 5890 section 2.3.1).
abbrev pub StandsFor : List ℕ → List ℕ → Type 0
StandsFor label form = (IsPlainLabel label × (label ≡ form))
    ⊎ (All IsScalar form × IsUnicodeLabel form × (length (a_label form) ≤ 63)
    × ((label ≡ form) ⊎ (map to_ascii_lowercase label ≡ a_label form)))

-- a label in its encoded form
unfoldable pub encoded_form : List ℕ → List ℕ
encoded_form form = if is_all_ascii form then form else a_label form

-- full stop, ideographic full stop, fullwidth full stop and halfwidth ideographic full stop, the
-- dots of RFC 3490 section 3.1, which RFC 5890 to 5893 leave to applications
abbrev pub is_label_separator : ℕ → Bool
is_label_separator c = c == 0x2E || c == 0x3002 || c == 0xFF0E || c == 0xFF61

-- labels with such separators between them
pub record IsIdnHostName (text : List ℕ) : Type 0 where
  pub forms : List (List ℕ)
  pub labels : AllZip StandsFor (slice_split is_label_separator text) forms
  -- each label of a Bidi domain name keeps the Bidi rule (RFC 5893 section 2)
  pub bidi : IsTrue (list_any is_right_to_left_label forms) → All KeepsBidiRule forms
  -- at most 253 characters in encoded form
  pub size : length (join_with_byte (byte ".") (map encoded_form forms)) ≤ 253
