-- White space of ECMA-262: the characters of `\s`, which are those of WhiteSpace (section 12.2) and
-- of LineTerminator (section 12.3). U+0085 and U+180E are none.
use Rattle.std.specs.Prelude.{ℕ, Bool, nat_le, nat_lt, ◌==◌, ◌&&◌, ◌||◌}
use Rattle.strkw_text.specs.Characters.{is_from_to}

abbrev pub is_ecma_whitespace : ℕ → Bool
is_ecma_whitespace c =
    is_from_to 0x9 0xD c || c == 0x20 || c == 0xA0 || c == 0x1680
    || is_from_to 0x2000 0x200A c || c == 0x2028 || c == 0x2029 || c == 0x202F
    || c == 0x205F || c == 0x3000 || c == 0xFEFF

-- a byte by which white space may begin in UTF-8: an ASCII character up to the space, or the first
-- byte of the others; for private clauses
abbrev pub may_begin : ℕ → Bool
may_begin b = ((nat_le b 0x20 || b == 0xC2) || is_from_to 0xE1 0xE3 b) || b == 0xEF

-- an ASCII character past the space, none of which is white space; for private clauses
abbrev pub is_solid : ℕ → Bool
is_solid b = nat_lt 0x20 b && nat_lt b 0x80
