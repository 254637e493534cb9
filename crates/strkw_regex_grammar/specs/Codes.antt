-- Escapes that give a character by a number: CharacterEscape of ECMA-262 2024, section 22.2.1, in
-- Unicode mode, with neither ControlEscape nor IdentityEscape.
use Rattle.std.specs.Prelude.{◌≡◌, ℕ, ◌+◌, ◌*◌, ◌-◌, ◌%◌, nat_lt, nat_le, Bool, true, ◌&&◌, ◌||◌}
use Rattle.std.specs.Prelude.{List, [], ◌∷◌, ◌++◌, false, length}
use Rattle.std.specs.Char.{digit_value, is_ascii_alphabetic}
use Rattle.std.specs.Str.{byte}

-- HexDigit, and the value of some of them (section 12.9.3.1)
abbrev pub is_hex_digit : ℕ → Bool
is_hex_digit c = nat_lt (digit_value c) 16

abbrev pub are_hex_digits : List ℕ → Bool
are_hex_digits [] = true
are_hex_digits (d ∷ ds) = is_hex_digit d && are_hex_digits ds

abbrev pub hex_number_from : ℕ → List ℕ → ℕ
hex_number_from v [] = v
hex_number_from v (d ∷ ds) = hex_number_from (v * 16 + digit_value d) ds

abbrev pub hex_number : List ℕ → ℕ
hex_number = hex_number_from 0

abbrev pub max_code_point : ℕ
max_code_point = 0x10FFFF

-- HexLeadSurrogate and HexTrailSurrogate; and a code point that a text can have, which is none of
-- these
abbrev pub is_lead : ℕ → Bool
is_lead n = nat_le 0xD800 n && nat_le n 0xDBFF

abbrev pub is_trail : ℕ → Bool
is_trail n = nat_le 0xDC00 n && nat_le n 0xDFFF

abbrev pub is_scalar : ℕ → Bool
is_scalar n = nat_lt n 0xD800 || (nat_le 0xE000 n && nat_le n max_code_point)

pub data Code : Type 0 where
  -- `\0`
  null_code : Code
  -- `\c` and a letter
  letter_code : ℕ → Code
  -- `\x` and two digits
  byte_code : List ℕ → Code
  -- `\u` and four digits, or two of these, of a leading and a trailing surrogate
  unit_code : List ℕ → Code
  pair_code : List ℕ → List ℕ → Code
  -- `\u{ }` with as many digits as there are
  point_code : List ℕ → Code

-- behind the backslash
abbrev pub code_spelling : Code → List ℕ
code_spelling null_code = byte "0" ∷ []
code_spelling (letter_code c) = byte "c" ∷ c ∷ []
code_spelling (byte_code ds) = byte "x" ∷ ds
code_spelling (unit_code ds) = byte "u" ∷ ds
code_spelling (pair_code ds es) = byte "u" ∷ (ds ++ byte "\\" ∷ byte "u" ∷ es)
code_spelling (point_code ds) = byte "u" ∷ byte "{" ∷ (ds ++ byte "}" ∷ [])

-- CharacterValue (section 22.2.1.4); of a pair, UTF16SurrogatePairToCodePoint (section 11.1.3)
abbrev pub code_value : Code → ℕ
code_value null_code = 0
code_value (letter_code c) = c % 32
code_value (byte_code ds) = hex_number ds
code_value (unit_code ds) = hex_number ds
code_value (pair_code ds es) = (hex_number ds - 0xD800) * 0x400 + (hex_number es - 0xDC00) + 0x10000
code_value (point_code ds) = hex_number ds

abbrev pub AreDigits : ℕ → List ℕ → Type 0
AreDigits n ds = (are_hex_digits ds ≡ true) × (length ds ≡ n)

abbrev pub has_digits : List ℕ → Bool
has_digits [] = false
has_digits (d ∷ ds) = true

abbrev pub AreCodeDigits : Code → Type 0
AreCodeDigits null_code = Unit {0}
AreCodeDigits (letter_code c) = is_ascii_alphabetic c ≡ true
AreCodeDigits (byte_code ds) = AreDigits 2 ds
AreCodeDigits (unit_code ds) = AreDigits 4 ds
AreCodeDigits (pair_code ds es) = (AreDigits 4 ds × (is_lead (hex_number ds) ≡ true))
    × AreDigits 4 es × (is_trail (hex_number es) ≡ true)
AreCodeDigits (point_code ds) = (are_hex_digits ds ≡ true) × (has_digits ds ≡ true)

-- it gives a character that a text can have: a surrogate alone is not taken
abbrev pub IsCode : Code → Type 0
IsCode d = AreCodeDigits d × (is_scalar (code_value d) ≡ true)
