-- Names of groups: GroupName of ECMA-262 2024, section 22.2.1, in Unicode mode.
use Rattle.std.specs.Prelude.{◌≡◌, ℕ, Bool, true, false, not, ◌&&◌, ◌||◌, ◌==◌, nat_eq, List, []}
use Rattle.std.specs.Prelude.{◌∷◌, ◌++◌, map, if◌then◌else◌}
use Rattle.std.specs.Cmp.Lexicographic.{pointwise}
use Rattle.std.specs.List.{list_any}
use Rattle.std.specs.Str.{byte}
use Rattle.ucd_derived.specs.Binary.{is_id_start, is_id_continue}
use Rattle.strkw_regex_grammar.specs.Codes.{Code, null_code, letter_code, byte_code, unit_code}
use Rattle.strkw_regex_grammar.specs.Codes.{pair_code, point_code, code_spelling, code_value}
use Rattle.strkw_regex_grammar.specs.Codes.{IsCode}
pub use Rattle.strkw_regex_grammar.specs.declared.tokens.Extension.{Extension}
pub use Rattle.strkw_regex_grammar.specs.declared.tokens.Extension.TheVariants.{Uncaptured as uncaptured}
pub use Rattle.strkw_regex_grammar.specs.declared.tokens.Extension.TheVariants.{NameOpening as name_opening}
pub use Rattle.strkw_regex_grammar.specs.declared.tokens.Extension.TheVariants.{Equals as look_equals}
pub use Rattle.strkw_regex_grammar.specs.declared.tokens.Extension.TheVariants.{Exclamation as look_negation}
pub use Rattle.strkw_regex_grammar.specs.declared.tokens.Extension.TheVariants.{Unknown as no_extension}
pub use Rattle.strkw_regex_grammar.specs.declared.tokens.NameToken.{NameToken}
pub use Rattle.strkw_regex_grammar.specs.declared.tokens.NameToken.TheVariants.{End as name_end}
pub use Rattle.strkw_regex_grammar.specs.declared.tokens.NameToken.TheVariants.{Backslash as name_backslash}
pub use Rattle.strkw_regex_grammar.specs.declared.tokens.NameToken.TheVariants.{Equals as name_equals}
pub use Rattle.strkw_regex_grammar.specs.declared.tokens.NameToken.TheVariants.{Exclamation as name_negation}
pub use Rattle.strkw_regex_grammar.specs.declared.tokens.NameToken.TheVariants.{Character as name_character}

-- IdentifierStartChar and IdentifierPartChar (section 12.7); `_` is one of ID_Continue
abbrev pub is_name_start : ℕ → Bool
is_name_start c = is_id_start c || c == byte "$" || c == byte "_"

abbrev pub is_name_part : ℕ → Bool
is_name_part c = is_id_continue c || c == byte "$" || c == 0x200C || c == 0x200D

-- one of a name's characters: itself, or RegExpUnicodeEscapeSequence
pub data NameChar : Type 0 where
  verbatim : ℕ → NameChar
  by_code : Code → NameChar

abbrev pub name_char_spelling : NameChar → List ℕ
name_char_spelling (verbatim c) = c ∷ []
name_char_spelling (by_code k) = byte "\\" ∷ code_spelling k

abbrev pub name_spelling : List NameChar → List ℕ
name_spelling [] = []
name_spelling (x ∷ xs) = name_char_spelling x ++ name_spelling xs

-- RegExpIdentifierCodePoint, and CapturingGroupName: escapes give the characters that they stand
-- for
abbrev pub name_char_value : NameChar → ℕ
name_char_value (verbatim c) = c
name_char_value (by_code k) = code_value k

abbrev pub name_value : List NameChar → List ℕ
name_value = map name_char_value

-- `\u` with four digits, with two of these as surrogates, or with braces
abbrev pub is_unicode : Code → Bool
is_unicode null_code = false
is_unicode (letter_code c) = false
is_unicode (byte_code ds) = false
is_unicode (unit_code ds) = true
is_unicode (pair_code ds es) = true
is_unicode (point_code ds) = true

-- RegExpIdentifierStart or RegExpIdentifierPart, where the characters are those with f
abbrev pub IsNameChar : (ℕ → Bool) → NameChar → Type 0
IsNameChar f (verbatim c) = f c ≡ true
IsNameChar f (by_code k) = (is_unicode k ≡ true) × IsCode k × (f (code_value k) ≡ true)

abbrev pub AreNameParts : List NameChar → Type 0
AreNameParts [] = Unit {0}
AreNameParts (x ∷ xs) = IsNameChar is_name_part x × AreNameParts xs

-- RegExpIdentifierName
abbrev pub IsName : List NameChar → Type 0
IsName [] = ⊥
IsName (x ∷ xs) = IsNameChar is_name_start x × AreNameParts xs

-- what may follow this much of a name
abbrev pub may_follow : List ℕ → ℕ → Bool
may_follow [] c = is_name_start c
may_follow (d ∷ ds) c = is_name_part c

abbrev pub same_name : List ℕ → List ℕ → Bool
same_name = pointwise nat_eq

-- no name is there twice
abbrev pub are_distinct : List (List ℕ) → Bool
are_distinct [] = true
are_distinct (n ∷ ns) = not (list_any (λ m. same_name m n) ns) && are_distinct ns

-- what a character is behind `(?`
abbrev pub extension : ℕ → Extension
extension c = if c == byte ":" then uncaptured else if c == byte "<" then name_opening
    else if c == byte "=" then look_equals else if c == byte "!" then look_negation
    else no_extension

-- and behind `(?<`, in a name or before it
abbrev pub name_token : ℕ → NameToken
name_token c = if c == byte ">" then name_end else if c == byte "\\" then name_backslash
    else if c == byte "=" then name_equals else if c == byte "!" then name_negation
    else name_character
