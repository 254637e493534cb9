-- What a character is behind a backslash (ECMA-262 2024, section 22.2.1, in Unicode mode).
use Rattle.std.specs.Prelude.{ℕ, codes, if◌then◌else◌, ◌==◌}
use Rattle.std.specs.Str.{byte}
use Rattle.strkw_text.specs.Characters.{is_one_of}
-- a SyntaxCharacter or `/`, which IdentityEscape takes; one of ControlEscape; one of
-- CharacterClassEscape; an assertion's letter; the letter of an escape by a number, or of a
-- property
pub use Rattle.strkw_regex_grammar.specs.declared.tokens.Escape.{Escape}
pub use Rattle.strkw_regex_grammar.specs.declared.tokens.Escape.TheVariants.{Itself as itself}
pub use Rattle.strkw_regex_grammar.specs.declared.tokens.Escape.TheVariants.{Control as control}
pub use Rattle.strkw_regex_grammar.specs.declared.tokens.Escape.TheVariants.{Set as set}
pub use Rattle.strkw_regex_grammar.specs.declared.tokens.Escape.TheVariants.{Boundary as boundary}
pub use Rattle.strkw_regex_grammar.specs.declared.tokens.Escape.TheVariants.{NoBoundary as no_boundary}
pub use Rattle.strkw_regex_grammar.specs.declared.tokens.Escape.TheVariants.{Null as null}
pub use Rattle.strkw_regex_grammar.specs.declared.tokens.Escape.TheVariants.{Letter as letter}
pub use Rattle.strkw_regex_grammar.specs.declared.tokens.Escape.TheVariants.{Hexadecimal as hexadecimal}
pub use Rattle.strkw_regex_grammar.specs.declared.tokens.Escape.TheVariants.{Unicode as unicode}
pub use Rattle.strkw_regex_grammar.specs.declared.tokens.Escape.TheVariants.{Property as property}
pub use Rattle.strkw_regex_grammar.specs.declared.tokens.Escape.TheVariants.{NoProperty as no_property}
pub use Rattle.strkw_regex_grammar.specs.declared.tokens.Escape.TheVariants.{Unknown as unknown}

abbrev pub escape : ℕ → Escape
escape c =
    if c == byte "b" then boundary else if c == byte "B" then no_boundary
    else if c == byte "0" then null else if c == byte "c" then letter
    else if c == byte "x" then hexadecimal else if c == byte "u" then unicode
    else if c == byte "p" then property else if c == byte "P" then no_property
    else if is_one_of (codes "^$\\.*+?()[]{}|/") c then itself
    else if is_one_of (codes "fnrtv") c then control
    else if is_one_of (codes "dDsSwW") c then set else unknown
