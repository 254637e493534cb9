-- The characters of the rules as the standards write them, alternative by alternative and range by
-- range. The laws say that the classes of `Characters`, `Template` and `Pointer`, which gather
-- them, are the same.
use Rattle.std.specs.Prelude.{ℕ, Bool, ◌||◌, ◌==◌, List, [], ◌∷◌}
use Rattle.std.specs.List.{list_any}
use Rattle.std.specs.Str.{byte}
use Rattle.strkw_text.specs.Characters.{is_from_to}
use Rattle.strkw_uri.specs.Characters.{is_ucschar, is_iprivate}

-- RFC 5234 appendix B.1: ALPHA = %x41-5A / %x61-7A
abbrev pub alpha_as_written : ℕ → Bool
alpha_as_written c = is_from_to 0x41 0x5A c || is_from_to 0x61 0x7A c

-- RFC 5234 appendix B.1: DIGIT = %x30-39
abbrev pub digit_as_written : ℕ → Bool
digit_as_written c = is_from_to 0x30 0x39 c

-- RFC 5234 appendix B.1: HEXDIG = DIGIT / "A" / "B" / "C" / "D" / "E" / "F", the letters in either
-- case (section 2.3)
abbrev pub hexdig_as_written : ℕ → Bool
hexdig_as_written c = digit_as_written c || is_from_to 0x41 0x46 c || is_from_to 0x61 0x66 c

-- RFC 3986 section 2.3: unreserved = ALPHA / DIGIT / "-" / "." / "_" / "~"
abbrev pub unreserved_as_written : ℕ → Bool
unreserved_as_written c = alpha_as_written c || digit_as_written c || c == byte "-" || c == byte "."
    || c == byte "_" || c == byte "~"

-- RFC 3986 section 2.2: gen-delims = ":" / "/" / "?" / "#" / "[" / "]" / "@"
abbrev pub gen_delims_as_written : ℕ → Bool
gen_delims_as_written c = c == byte ":" || c == byte "/" || c == byte "?" || c == byte "#"
    || c == byte "[" || c == byte "]" || c == byte "@"

-- RFC 3986 section 2.2: sub-delims = "!" / "$" / "&" / "'" / "(" / ")" / "*" / "+" / "," / ";" /
-- "="
abbrev pub sub_delims_as_written : ℕ → Bool
sub_delims_as_written c =
    c == byte "!" || c == byte "$" || c == byte "&" || c == byte "'" || c == byte "("
    || c == byte ")"
    || c == byte "*" || c == byte "+" || c == byte "," || c == byte ";" || c == byte "="

-- one of the ranges, both ends included
abbrev pub is_within : List (ℕ × ℕ) → ℕ → Bool
is_within ranges c = list_any (λ range. is_from_to range.0 range.1 c) ranges

-- RFC 3987 section 2.2: ucschar
abbrev pub ucschar_as_written : List (ℕ × ℕ)
ucschar_as_written =
    (0xA0, 0xD7FF) ∷ (0xF900, 0xFDCF) ∷ (0xFDF0, 0xFFEF)
    ∷ (0x10000, 0x1FFFD) ∷ (0x20000, 0x2FFFD) ∷ (0x30000, 0x3FFFD)
    ∷ (0x40000, 0x4FFFD) ∷ (0x50000, 0x5FFFD) ∷ (0x60000, 0x6FFFD)
    ∷ (0x70000, 0x7FFFD) ∷ (0x80000, 0x8FFFD) ∷ (0x90000, 0x9FFFD)
    ∷ (0xA0000, 0xAFFFD) ∷ (0xB0000, 0xBFFFD) ∷ (0xC0000, 0xCFFFD)
    ∷ (0xD0000, 0xDFFFD) ∷ (0xE1000, 0xEFFFD) ∷ []

-- RFC 3987 section 2.2: iprivate
abbrev pub iprivate_as_written : List (ℕ × ℕ)
iprivate_as_written = (0xE000, 0xF8FF) ∷ (0xF0000, 0xFFFFD) ∷ (0x100000, 0x10FFFD) ∷ []

-- RFC 6570 section 2.1: literals, up to ucschar
abbrev pub ascii_literals_as_written : ℕ → Bool
ascii_literals_as_written c =
    c == 0x21 || is_from_to 0x23 0x24 c || c == 0x26 || is_from_to 0x28 0x3B c || c == 0x3D
    || is_from_to 0x3F 0x5B c
    || c == 0x5D || c == 0x5F || is_from_to 0x61 0x7A c || c == 0x7E

-- and with ucschar and iprivate, but without pct-encoded, which is no single character
abbrev pub literals_as_written : ℕ → Bool
literals_as_written c = ascii_literals_as_written c || is_ucschar c || is_iprivate c

-- RFC 6570 section 2.2: op-level2 = "+" / "#", op-level3 = "." / "/" / ";" / "?" / "&", op-reserve
-- = "=" / "," / "!" / "@" / "|"
abbrev pub operator_as_written : ℕ → Bool
operator_as_written c =
    (c == byte "+" || c == byte "#")
    || (c == byte "." || c == byte "/" || c == byte ";" || c == byte "?" || c == byte "&")
    || (c == byte "=" || c == byte "," || c == byte "!" || c == byte "@" || c == byte "|")

-- RFC 6901 section 3: unescaped = %x00-2E / %x30-7D / %x7F-10FFFF
abbrev pub unescaped_as_written : ℕ → Bool
unescaped_as_written c = is_from_to 0x00 0x2E c || is_from_to 0x30 0x7D c
    || is_from_to 0x7F 0x10FFFF c
