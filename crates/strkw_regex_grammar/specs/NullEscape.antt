-- `\0` is an escape only where no decimal digit follows it (CharacterEscape of ECMA-262 2024,
-- section 22.2.1).
use Rattle.std.specs.Prelude.{ℕ, Bool, true, ◌&&◌, not, List, [], ◌∷◌, if◌then◌else◌, ◌==◌}
use Rattle.std.specs.Str.{byte}
use Rattle.strkw_regex_grammar.specs.Numbers.{is_digit}
-- what stands before a character: a backslash that begins an escape, `\0`, or neither
pub use Rattle.strkw_regex_grammar.specs.declared.null_escape.Front.{Front}
pub use Rattle.strkw_regex_grammar.specs.declared.null_escape.Front.TheVariants.{Neither as neither}
pub use Rattle.strkw_regex_grammar.specs.declared.null_escape.Front.TheVariants.{Backslash as backslash}
pub use Rattle.strkw_regex_grammar.specs.declared.null_escape.Front.TheVariants.{Null as null}

abbrev pub after_plain : ℕ → Front
after_plain c = if c == byte "\\" then backslash else neither

abbrev pub after : Front → ℕ → Front
after neither c = after_plain c
after backslash c = if c == byte "0" then null else neither
after null c = after_plain c

abbrev pub may_precede : Front → ℕ → Bool
may_precede neither c = true
may_precede backslash c = true
may_precede null c = not (is_digit c)

-- of the rest of a pattern's text
abbrev pub is_apart_from : Front → List ℕ → Bool
is_apart_from f [] = true
is_apart_from f (c ∷ cs) = may_precede f c && is_apart_from (after f c) cs

-- behind no `\0` of the text a decimal digit stands
abbrev pub is_apart : List ℕ → Bool
is_apart = is_apart_from neither
