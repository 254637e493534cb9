-- Sets of characters of ECMA-262 2024, as ranges.
use Rattle.std.specs.Prelude.{ℕ, Bool, List, [], ◌∷◌, codes, if◌then◌else◌, ◌==◌}
use Rattle.std.specs.Str.{byte}
use Rattle.strkw_text.specs.Characters.{is_one_of}
use Rattle.strkw_charset.specs.declared.tree.CharSet.{CharSet}
use Rattle.strkw_charset.specs.declared.tree.CharSet.TheVariants.{Range}

-- LineTerminator (section 12.3)
abbrev pub line_ends : List CharSet
line_ends = Range 0xA 0xA ∷ Range 0xD 0xD ∷ Range 0x2028 0x2029 ∷ []

abbrev pub digits : List CharSet
digits = Range 0x30 0x39 ∷ []

-- WordCharacters (section 22.2.2.3.2), without the flag i
abbrev pub word_characters : List CharSet
word_characters = Range 0x30 0x39 ∷ Range 0x41 0x5A ∷ Range 0x5F 0x5F ∷ Range 0x61 0x7A ∷ []

-- WhiteSpace (section 12.2) and LineTerminator
abbrev pub white_space : List CharSet
white_space =
    Range 0x9 0xD ∷ Range 0x20 0x20 ∷ Range 0xA0 0xA0 ∷ Range 0x1680 0x1680 ∷ Range 0x2000 0x200A
    ∷ Range 0x2028 0x2029 ∷ Range 0x202F 0x202F
    ∷ Range 0x205F 0x205F ∷ Range 0x3000 0x3000 ∷ Range 0xFEFF 0xFEFF ∷ []

-- CharacterClassEscape (section 22.2.1): the set of a letter, and whether the letter stands for all
-- but it
abbrev pub set_of : ℕ → List CharSet
set_of c = if is_one_of (codes "dD") c then digits else if is_one_of (codes "sS") c then white_space
    else word_characters

-- the characters outside each set, up to the greatest
abbrev pub non_digits : List CharSet
non_digits = Range 0x0 0x2F ∷ Range 0x3A 0x10FFFF ∷ []

abbrev pub non_word_characters : List CharSet
non_word_characters = Range 0x0 0x2F ∷ Range 0x3A 0x40 ∷ Range 0x5B 0x5E ∷ Range 0x60 0x60 ∷ Range
    0x7B 0x10FFFF ∷ []

abbrev pub non_white_space : List CharSet
non_white_space =
    Range 0x0 0x8 ∷ Range 0xE 0x1F ∷ Range 0x21 0x9F ∷ Range 0xA1 0x167F ∷ Range 0x1681 0x1FFF
    ∷ Range 0x200B 0x2027 ∷ Range 0x202A 0x202E
    ∷ Range 0x2030 0x205E ∷ Range 0x2060 0x2FFF ∷ Range 0x3001 0xFEFE ∷ Range 0xFF00 0x10FFFF ∷ []

-- the characters of a letter, in a class
abbrev pub set_ranges : ℕ → List CharSet
set_ranges c =
    if c == byte "D" then non_digits else if c == byte "S" then non_white_space
    else if c == byte "W" then non_word_characters
    else set_of c

abbrev pub is_negative : ℕ → Bool
is_negative c = is_one_of (codes "DSW") c

-- ControlEscape (section 22.2.1, table 65): the character of a letter
abbrev pub control_char : ℕ → ℕ
control_char c =
    if c == byte "t" then 0x9 else if c == byte "n" then 0xA else if c == byte "v" then 0xB
    else if c == byte "f" then 0xC else 0xD
