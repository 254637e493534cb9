-- Which texts a label may stand for: nine conditions, after RFC 5891 section 4.2.3.2, RFC 5892
-- sections 2.1 and 2.6, and its appendices A.1 to A.9, over the general categories of Unicode. A
-- text is a list of characters.
--
-- Choices of this project, in which the conditions are not the RFCs':
-- * U+200C stands where U+200D does, directly after a virama: of the two cases of appendix A.1 the
--   one by joining types is left out.
-- * The viramas are 50, where appendices A.1 and A.2 speak of all characters of that combining
--   class.
-- * Blocks stand for the scripts of appendices A.4 to A.7: Greek and Coptic; Hebrew; Hiragana and
--   Katakana; and for Han the block CJK Unified Ideographs. So U+0375 before U+1F00 and U+30FB
--   beside U+3400 are refused, and U+0375 before U+03E3 and U+30FB beside U+309B are admitted, each
--   the contrary of RFC 5892.
-- * Titlecase letters (Lt), and all of Hiragana, Katakana and CJK Unified Ideographs, are admitted.
-- * Not applied are the rule for text that runs from right to left (RFC 5893), the normal form NFC,
--   and the derived property of RFC 5892 section 3, but for its sections 2.1 and 2.6.
use Rattle.std.specs.Prelude.{◌≡◌, ℕ, ◌+◌, ◌-◌, ◌<◌, ◌⊎◌, Bool, true, false, ◌||◌, ◌==◌, List, []}
use Rattle.std.specs.Prelude.{◌∷◌, length, slice_index, IsTrue}
use Rattle.std.specs.List.{list_any}
use Rattle.std.specs.Int.{is_in_range}
use Rattle.std.specs.Str.{byte}
use Rattle.unicode.specs.GeneralCategory.{general_category}
use Rattle.ucd_category.specs.declared.GeneralCategory.{GeneralCategory}
use Rattle.ucd_category.specs.declared.GeneralCategory.TheVariants.{UppercaseLetter}
use Rattle.ucd_category.specs.declared.GeneralCategory.TheVariants.{LowercaseLetter}
use Rattle.ucd_category.specs.declared.GeneralCategory.TheVariants.{TitlecaseLetter, ModifierLetter}
use Rattle.ucd_category.specs.declared.GeneralCategory.TheVariants.{OtherLetter, NonspacingMark}
use Rattle.ucd_category.specs.declared.GeneralCategory.TheVariants.{SpacingMark, EnclosingMark}
use Rattle.ucd_category.specs.declared.GeneralCategory.TheVariants.{DecimalNumber}

-- ---- classes of characters

-- categories Mn, Mc and Me
abbrev pub is_mark : GeneralCategory → Bool
is_mark NonspacingMark = true
is_mark SpacingMark = true
is_mark EnclosingMark = true
is_mark _ = false

-- categories Lu, Ll, Lm, Lo, Mn, Mc and Nd, the LetterDigits of RFC 5892 section 2.1, and Lt
abbrev pub is_letter_mark_or_digit : GeneralCategory → Bool
is_letter_mark_or_digit UppercaseLetter = true
is_letter_mark_or_digit LowercaseLetter = true
is_letter_mark_or_digit TitlecaseLetter = true
is_letter_mark_or_digit ModifierLetter = true
is_letter_mark_or_digit OtherLetter = true
is_letter_mark_or_digit NonspacingMark = true
is_letter_mark_or_digit SpacingMark = true
is_letter_mark_or_digit DecimalNumber = true
is_letter_mark_or_digit _ = false

-- 50 characters of canonical combining class virama (9 in UnicodeData.txt)
abbrev pub viramas : List ℕ
viramas =
    0x94D ∷ 0x9CD ∷ 0xA4D ∷ 0xACD ∷ 0xB4D ∷ 0xBCD ∷ 0xC4D ∷ 0xCCD ∷ 0xD4D ∷ 0xDCA
    ∷ 0xE3A ∷ 0xF84 ∷ 0x1039 ∷ 0x1714 ∷ 0x1734 ∷ 0x17D2 ∷ 0x1A60 ∷ 0x1B44 ∷ 0x1BAA ∷ 0x1BF2
    ∷ 0x1BF3 ∷ 0x2D7F ∷ 0xA806 ∷ 0xA8C4 ∷ 0xA953 ∷ 0xABED ∷ 0x10A3F ∷ 0x11046 ∷ 0x1107F ∷ 0x110B9
    ∷ 0x11133 ∷ 0x111C0 ∷ 0x11235 ∷ 0x112EA ∷ 0x1134D ∷ 0x11442 ∷ 0x114C2 ∷ 0x115BF ∷ 0x1163F
    ∷ 0x116B6
    ∷ 0x1172B ∷ 0x11839 ∷ 0x119E0 ∷ 0x11A34 ∷ 0x11A47 ∷ 0x11A99 ∷ 0x11C3F ∷ 0x11D44 ∷ 0x11D45
    ∷ 0x11D97 ∷ []

unfoldable pub is_virama : ℕ → Bool
is_virama c = list_any (λ v. v == c) viramas

-- admitted nowhere; the disallowed exceptions of RFC 5892 section 2.6
abbrev pub is_excluded : ℕ → Bool
is_excluded c = c == 0x640 || c == 0x7FA || is_in_range 0x302E 0x302F c
    || is_in_range 0x3031 0x3035 c || c == 0x303B

-- admitted whatever the category: what has a rule of its own below, the admitted exceptions of RFC
-- 5892 section 2.6, and the blocks of kana and Han
abbrev pub is_exception : ℕ → Bool
is_exception c =
    c == 0x200C || c == 0x200D || c == 0xB7 || c == 0x375 || is_in_range 0x5F3 0x5F4 c
    || is_in_range 0x6FD 0x6FE c
    || c == 0xF0B || c == 0x3007 || is_in_range 0x3040 0x30FF c || is_in_range 0x4E00 0x9FFF c

-- the blocks Hiragana and Katakana but for U+30FB itself, and CJK Unified Ideographs
abbrev pub is_kana_or_han : ℕ → Bool
is_kana_or_han c = is_in_range 0x3040 0x30FA c || is_in_range 0x30FC 0x30FF c
    || is_in_range 0x4E00 0x9FFF c

-- ---- at one place

-- U+200C and U+200D, zero width non-joiner and joiner: directly after a virama; RFC 5892 appendix
-- A.2, and the first case of A.1
abbrev pub JoinerStands : List ℕ → ℕ → Type 0
JoinerStands text k = IsTrue (is_in_range 0x200C 0x200D (slice_index text k)) → (0 < k)
    × IsTrue (is_virama (slice_index text (k - 1)))

-- U+00B7, middle dot: between two `l`; appendix A.3
abbrev pub MiddleDotStands : List ℕ → ℕ → Type 0
MiddleDotStands text k = slice_index text k ≡ 0xB7 → (0 < k) × (slice_index text (k - 1) ≡ byte "l")
    × (k + 1 < length text) × (slice_index text (k + 1) ≡ byte "l")

-- U+0375, Greek keraia: directly before a character of the block Greek and Coptic; appendix A.4
abbrev pub KeraiaStands : List ℕ → ℕ → Type 0
KeraiaStands text k = slice_index text k ≡ 0x375 → (k + 1 < length text)
    × IsTrue (is_in_range 0x370 0x3FF (slice_index text (k + 1)))

-- U+05F3 and U+05F4, Hebrew geresh and gershayim: directly after a character of the block Hebrew;
-- appendices A.5 and A.6
abbrev pub GereshStands : List ℕ → ℕ → Type 0
GereshStands text k = IsTrue (is_in_range 0x5F3 0x5F4 (slice_index text k)) → (0 < k)
    × IsTrue (is_in_range 0x590 0x5FF (slice_index text (k - 1)))

-- ASCII, an exception, or of an admitted category
abbrev pub IsAdmittedCharacter : ℕ → Type 0
IsAdmittedCharacter c = (c < 128) ⊎ IsTrue (is_exception c)
    ⊎ IsTrue (is_letter_mark_or_digit (general_category c))

-- some character passes
abbrev pub Has : (ℕ → Bool) → List ℕ → Type 0
Has p text = (k : ℕ) × (k < length text) × IsTrue (p (slice_index text k))

-- ---- the nine conditions on a text

-- six on each place
pub record StandsWell (text : List ℕ) (k : ℕ) : Type 0 where
  pub joiner : JoinerStands text k
  pub middle_dot : MiddleDotStands text k
  pub keraia : KeraiaStands text k
  pub geresh : GereshStands text k
  pub not_excluded : is_excluded (slice_index text k) ≡ false
  pub character : IsAdmittedCharacter (slice_index text k)

-- and three on the whole
pub record IsAdmittedLabel (text : List ℕ) : Type 0 where
  -- no mark is first; RFC 5891 section 4.2.3.2
  pub no_leading_mark : 0 < length text → is_mark (general_category (slice_index text 0)) ≡ false
  pub each : (k : ℕ) → k < length text → StandsWell text k
  -- U+30FB, katakana middle dot, only in a text with kana or Han; RFC 5892 appendix A.7
  pub katakana_dots : Has (λ c. c == 0x30FB) text → Has is_kana_or_han text
  -- Arabic-Indic digits and extended ones not both; appendices A.8 and A.9
  pub one_digit_set : Has (λ c. is_in_range 0x660 0x669 c) text
      → Has (λ c. is_in_range 0x6F0 0x6F9 c) text → ⊥
