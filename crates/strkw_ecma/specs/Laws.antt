-- The grammar and the meaning of a pattern's text, and how large it may be.
use Rattle.std.specs.Prelude.{◌≡◌, ◌↔◌, ◌⊎◌, ℕ, ◌≤◌, true, false, not, IsTrue, List, [], length}
use Rattle.strkw_pattern.specs.declared.engine.Outcome.TheVariants.{Match, NoMatch}
use Rattle.strkw_regex_grammar.specs.Regex.{Disjunction, parts, IsMadeOf}
use Rattle.strkw_regex_reader.specs.Limits.{takes, max_length}
use Rattle.strkw_regex_core.specs.Tree.{Pattern, class, cat, alt, lookbehind, lookahead}
use Rattle.strkw_charset.specs.Membership.{in_sets}
use Rattle.strkw_charset.specs.Sets.{word_characters}
use Rattle.strkw_charset.specs.declared.tree.CharSet.{CharSet}
use Rattle.strkw_regex_grammar.specs.Codes.{max_code_point}
use Rattle.strkw_regex_core.specs.Size.{max_steps}
use Rattle.strkw_regex_core.specs.WholeSize.{whole_size}
use Rattle.strkw_regex_core.specs.Meaning.{Found}
use Rattle.strkw_regex_reader.specs.Patterns.{pattern}
use Rattle.strkw_regex_reader.specs.machine.Taken.{takes_pattern}
use Rattle.strkw_ecma.specs.machine.Outcomes.{pattern_outcome}

-- each character is in one of the two
abbrev pub AreComplements : List CharSet → List CharSet → Type 0
AreComplements rs ss = (c : ℕ) → c ≤ max_code_point → in_sets ss c ≡ not (in_sets rs c)

-- `[^]` and `\w`
abbrev pub any_character : Pattern
any_character = class true []

abbrev pub word_character : Pattern
word_character = class false word_characters

-- `(?<=\w)(?!\w)|(?<!\w)(?=\w)`: of the characters beside a place one alone is a word's
abbrev pub word_edge : Pattern
word_edge = alt
    (cat (lookbehind false word_character) (lookahead true word_character))
    (cat (lookbehind true word_character) (lookahead false word_character))

-- `(?<=\w)(?=\w)|(?<!\w)(?!\w)`: both are, or none is
abbrev pub no_word_edge : Pattern
no_word_edge = alt
    (cat (lookbehind false word_character) (lookahead false word_character))
    (cat (lookbehind true word_character) (lookahead true word_character))

-- the text is a pattern that is taken, and this is its tree
pub record IsPattern (source : List ℕ) (d : Disjunction) : Type 0 where
  pub made : IsMadeOf source (parts d)
  pub taken : takes 0 d ≡ true
  pub short : length source ≤ max_length
  pub small : whole_size (pattern d) ≤ max_steps

-- what is taken is a pattern, each pattern is taken, it has one tree, and it comes to a match
-- exactly where that is found, and to none elsewhere
pub record IsExact (source : List ℕ) : Type 0 where
  pub derived : IsTrue (takes_pattern source) → (d : Disjunction) × IsPattern source d
  pub taken : (d : Disjunction) → IsPattern source d → IsTrue (takes_pattern source)
  pub one_tree : (d e : Disjunction) → IsPattern source d → IsPattern source e → d ≡ e
  pub decided : (text : List ℕ) → (pattern_outcome source text ≡ Match)
      ⊎ (pattern_outcome source text ≡ NoMatch)
  pub meant : (d : Disjunction) → IsPattern source d → (text : List ℕ)
      → (pattern_outcome source text ≡ Match) ↔ Found (pattern d) text
