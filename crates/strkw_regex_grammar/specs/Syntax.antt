-- Tokens, quantifiers and groups, after `Pattern` of ECMA-262 2024, section 22.2.1, in Unicode mode.
use Rattle.std.specs.Prelude.{ℕ, Bool, true, false, List, [], ◌∷◌, ◌++◌, codes, if◌then◌else◌, ◌==◌}
use Rattle.std.specs.Str.{byte}
use Rattle.strkw_text.specs.Characters.{is_one_of}
use Rattle.strkw_regex_grammar.specs.Names.{NameChar, name_spelling, IsName}
-- what a character of a pattern is: `character` a PatternCharacter, `other` a SyntaxCharacter that
-- stands for nothing alone
pub use Rattle.strkw_regex_grammar.specs.declared.tokens.Token.{Token}
pub use Rattle.strkw_regex_grammar.specs.declared.tokens.Token.TheVariants.{Bar as bar}
pub use Rattle.strkw_regex_grammar.specs.declared.tokens.Token.TheVariants.{Asterisk as asterisk}
pub use Rattle.strkw_regex_grammar.specs.declared.tokens.Token.TheVariants.{Plus as plus}
pub use Rattle.strkw_regex_grammar.specs.declared.tokens.Token.TheVariants.{Question as question}
pub use Rattle.strkw_regex_grammar.specs.declared.tokens.Token.TheVariants.{Caret as caret}
pub use Rattle.strkw_regex_grammar.specs.declared.tokens.Token.TheVariants.{Dollar as dollar}
pub use Rattle.strkw_regex_grammar.specs.declared.tokens.Token.TheVariants.{Opening as opening}
pub use Rattle.strkw_regex_grammar.specs.declared.tokens.Token.TheVariants.{Closing as closing}
pub use Rattle.strkw_regex_grammar.specs.declared.tokens.Token.TheVariants.{Point as point}
pub use Rattle.strkw_regex_grammar.specs.declared.tokens.Token.TheVariants.{Backslash as backslash}
pub use Rattle.strkw_regex_grammar.specs.declared.tokens.Token.TheVariants.{Bracket as bracket}
pub use Rattle.strkw_regex_grammar.specs.declared.tokens.Token.TheVariants.{Brace as brace}
pub use Rattle.strkw_regex_grammar.specs.declared.tokens.Token.TheVariants.{Character as character}
pub use Rattle.strkw_regex_grammar.specs.declared.tokens.Token.TheVariants.{Other as other}

-- what a character is in a pattern
abbrev pub token : ℕ → Token
token c =
    if c == byte "|" then bar else if c == byte "*" then asterisk else if c == byte "+" then plus
    else if c == byte "?" then question else if c == byte "^" then caret
    else if c == byte "$" then dollar else if c == byte "(" then opening
    else if c == byte ")" then closing
    else if c == byte "." then point else if c == byte "\\" then backslash
    else if c == byte "[" then bracket else if c == byte "{" then brace
    else if is_one_of (codes "]}") c then other else character

-- Quantifier: `*`, `+`, `?`, `{n}`, `{n,}`, `{n,m}`, with the digits of the counts; and whether a
-- `?` behind it makes it lazy
pub data Quantifier : Type 0 where
  zero_or_more one_or_more zero_or_one : Quantifier
  exactly : List ℕ → Quantifier
  at_least : List ℕ → Quantifier
  from_to : List ℕ → List ℕ → Quantifier

pub data Greed : Type 0 where
  greedy lazy : Greed

-- a group that captures, `(?: )`, or `(?<name> )`
pub data Group : Type 0 where
  capturing plain_group : Group
  named : List NameChar → Group

-- what stands around a disjunction: a group, or a lookaround, which is negated or not: a lookbehind
-- or a lookahead
pub data Enclosing : Type 0 where
  of_group : Group → Enclosing
  of_lookbehind : Bool → Enclosing
  of_lookahead : Bool → Enclosing

abbrev pub quantifier_spelling : Quantifier → List ℕ
quantifier_spelling zero_or_more = byte "*" ∷ []
quantifier_spelling one_or_more = byte "+" ∷ []
quantifier_spelling zero_or_one = byte "?" ∷ []
quantifier_spelling (exactly ds) = byte "{" ∷ (ds ++ byte "}" ∷ [])
quantifier_spelling (at_least ds) = byte "{" ∷ (ds ++ byte "," ∷ byte "}" ∷ [])
quantifier_spelling (from_to ds es) = byte "{" ∷ (ds ++ byte "," ∷ (es ++ byte "}" ∷ []))

abbrev pub group_spelling : Group → List ℕ
group_spelling capturing = byte "(" ∷ []
group_spelling plain_group = byte "(" ∷ byte "?" ∷ byte ":" ∷ []
group_spelling (named n) = byte "(" ∷ byte "?" ∷ byte "<" ∷ (name_spelling n ++ byte ">" ∷ [])

abbrev pub lookbehind_spelling : Bool → List ℕ
lookbehind_spelling false = byte "(" ∷ byte "?" ∷ byte "<" ∷ byte "=" ∷ []
lookbehind_spelling true = byte "(" ∷ byte "?" ∷ byte "<" ∷ byte "!" ∷ []

abbrev pub lookahead_spelling : Bool → List ℕ
lookahead_spelling false = byte "(" ∷ byte "?" ∷ byte "=" ∷ []
lookahead_spelling true = byte "(" ∷ byte "?" ∷ byte "!" ∷ []

-- the beginning of what stands around a disjunction
abbrev pub enclosing_spelling : Enclosing → List ℕ
enclosing_spelling (of_group g) = group_spelling g
enclosing_spelling (of_lookbehind n) = lookbehind_spelling n
enclosing_spelling (of_lookahead n) = lookahead_spelling n

abbrev pub IsGroup : Group → Type 0
IsGroup capturing = Unit {0}
IsGroup plain_group = Unit {0}
IsGroup (named n) = IsName n

abbrev pub IsEnclosing : Enclosing → Type 0
IsEnclosing (of_group g) = IsGroup g
IsEnclosing (of_lookbehind n) = Unit {0}
IsEnclosing (of_lookahead n) = Unit {0}
