-- Patterns that are written for regular expressions without the flag `u`, and the pattern of mode
-- `u`, the strict form, that each is read as. Without the flag a backslash may stand before each
-- character that has no meaning of its own there, and gives that character (IdentityEscape of
-- ECMA-262 2024, section B.1.2). In the strict form its number stands for it.
use Rattle.std.specs.Prelude.{ℕ, ◌/◌, ◌%◌, nat_lt, Bool, true, false, not, ◌&&◌, ◌||◌, ◌==◌, List, []}
use Rattle.std.specs.Prelude.{◌∷◌, ◌++◌, codes, if◌then◌else◌}
use Rattle.std.specs.Char.{digit_char, is_ascii_alphanumeric}
use Rattle.std.specs.Str.{byte}
use Rattle.strkw_text.specs.Characters.{is_one_of}
use Rattle.strkw_regex_grammar.specs.Codes.{Code, byte_code, code_spelling}

-- of mode `u`: SyntaxCharacter or `/`, which IdentityEscape takes, and in a class `-`, which
-- ClassEscape takes (section 22.2.1)
abbrev pub is_strict : Bool → ℕ → Bool
is_strict in_class c = is_one_of (codes "^$\\.*+?()[]{}|/") c || (in_class && c == byte "-")

-- behind a backslash: any other character of ASCII that is no letter and no digit
abbrev pub is_lenient : Bool → ℕ → Bool
is_lenient in_class c = nat_lt c 0x80 && not (is_ascii_alphanumeric c || is_strict in_class c)

-- `\x` and two digits
abbrev pub byte_escape : ℕ → Code
byte_escape c = byte_code (digit_char (c / 16) ∷ digit_char (c % 16) ∷ [])

-- what stands for a backslash and this character
abbrev pub escape_form : Bool → ℕ → List ℕ
escape_form in_class c =
    byte "\\" ∷ (if is_lenient in_class c then code_spelling (byte_escape c) else c ∷ [])

-- whether a class is open behind a character that no backslash stands before
abbrev pub is_open : Bool → ℕ → Bool
is_open in_class c = if c == byte "[" then true else if c == byte "]" then false else in_class

abbrev mutual
  -- of the rest of a pattern, in a class or not
  pub strict_from : Bool → List ℕ → List ℕ
  strict_from in_class [] = []
  strict_from in_class (c ∷ cs) =
      if c == byte "\\" then strict_behind in_class cs
      else c ∷ strict_from (is_open in_class c) cs

  -- with the backslash before it
  pub strict_behind : Bool → List ℕ → List ℕ
  strict_behind in_class [] = byte "\\" ∷ []
  strict_behind in_class (c ∷ cs) = escape_form in_class c ++ strict_from in_class cs

abbrev pub strict_form : List ℕ → List ℕ
strict_form = strict_from false
