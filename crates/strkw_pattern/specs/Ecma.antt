-- Classes of characters as ECMA-262 and Unicode list them. The definitions of this crate group them
-- in their own way; the laws `white_space_as_listed`, `escapes_as_listed` and
-- `plain_characters_as_listed` tie them to these.
use Rattle.std.specs.Prelude.{ℕ, Bool, ◌==◌, ◌||◌}
use Rattle.std.specs.Str.{byte}

-- the general category Space_Separator, Zs
abbrev pub is_space_separator : ℕ → Bool
is_space_separator c =
    c == 0x20 || c == 0xA0 || c == 0x1680
    || c == 0x2000 || c == 0x2001 || c == 0x2002 || c == 0x2003 || c == 0x2004 || c == 0x2005
    || c == 0x2006 || c == 0x2007 || c == 0x2008 || c == 0x2009 || c == 0x200A
    || c == 0x202F || c == 0x205F || c == 0x3000

-- the table "White Space Code Points" (section 12.2): TAB, VT, FF, ZWNBSP and Zs
abbrev pub is_white_space_code_point : ℕ → Bool
is_white_space_code_point c = c == 0x9 || c == 0xB || c == 0xC || c == 0xFEFF
    || is_space_separator c

-- the table "Line Terminator Code Points" (section 12.3): LF, CR, LS and PS
abbrev pub is_line_terminator_code_point : ℕ → Bool
is_line_terminator_code_point c = c == 0xA || c == 0xD || c == 0x2028 || c == 0x2029

-- SyntaxCharacter :: one of ^ $ \ . * + ? ( ) [ ] { } | (section 22.2.1)
abbrev pub is_syntax_character : ℕ → Bool
is_syntax_character c =
    c == byte "^" || c == byte "$" || c == byte "\\" || c == byte "." || c == byte "*"
    || c == byte "+" || c == byte "?"
    || c == byte "(" || c == byte ")" || c == byte "[" || c == byte "]" || c == byte "{"
    || c == byte "}" || c == byte "|"
