-- How the text of a pattern is read, character by character.
use Rattle.std.specs.Prelude.{ℕ, nat_le, length, List, Option, Some, None, option_and_then}
use Rattle.std.specs.Prelude.{true, if◌then◌else◌}
use Rattle.strkw_regex_core.specs.machine.LeadingLookahead.{parts, steps_of_parts}
use Rattle.strkw_regex_core.specs.Size.{max_steps}
use Rattle.strkw_regex_core.specs.machine.MarkedPattern.{MarkedPattern}
use Rattle.strkw_regex_grammar.specs.NullEscape.{is_apart}
use Rattle.strkw_regex_grammar.specs.machine.Lexing.{Mode, between, Lexed, refused, under_way}
use Rattle.strkw_regex_grammar.specs.machine.Lexing.{lexed, lexed_both, Read, at, lex_next}
use Rattle.strkw_regex_grammar.specs.machine.Lexing.{read_end, read_from}
use Rattle.strkw_regex_reader.specs.Limits.{max_length}
use Rattle.strkw_regex_reader.specs.declared.refusals.PatternRefusal.{PatternRefusal}
use Rattle.strkw_regex_reader.specs.machine.Building.{Builder, Built, takes, refuses, build, step}
use Rattle.strkw_regex_reader.specs.machine.Building.{at_end, nothing_built, when}

-- what comes of one more character: it is taken, or it is not, for a reason where one is told
pub data Outcome : Type 0 where
  goes_on : Read Builder → Outcome
  stops : Option PatternRefusal → Outcome

abbrev pub built_at : Mode → Built → Outcome
built_at m (takes s) = goes_on (at m s)
built_at m (refuses w) = stops w

abbrev pub both_at : Mode → Built → (Builder → Built) → Outcome
both_at m (takes s) f = built_at m (f s)
both_at m (refuses w) f = stops w

abbrev pub outcome_of_lexed : Builder → Lexed → Outcome
outcome_of_lexed s refused = stops None
outcome_of_lexed s (under_way m) = goes_on (at m s)
outcome_of_lexed s (lexed l m) = built_at m (build s l)
outcome_of_lexed s (lexed_both l k m) = both_at m (build s l) (λ t. build t k)

abbrev pub next : Read Builder → ℕ → Outcome
next r c = outcome_of_lexed r.state (lex_next true r.mode c)

-- where it goes on
abbrev pub goes_to : Outcome → Option (Read Builder)
goes_to (goes_on r) = Some r
goes_to (stops w) = None

abbrev pub initial : Read Builder
initial = at between nothing_built

-- the pattern at the end of the text, where nothing is under way
abbrev pub ends : Read Builder → Option MarkedPattern
ends r = option_and_then at_end (read_end step r.state r.mode)

abbrev pub read_all : List ℕ → Option MarkedPattern
read_all source = option_and_then at_end (read_from true step initial source)

abbrev pub read_short : List ℕ → Option MarkedPattern
read_short source = if nat_le (length source) max_length then read_all source else None

-- what is not too large
abbrev pub keep_small : Option MarkedPattern → Option MarkedPattern
keep_small None = None
keep_small (Some p) = when (nat_le (steps_of_parts (parts p)) max_steps) (Some p)

-- the pattern of a text that is taken
abbrev pub read_pattern : List ℕ → Option MarkedPattern
read_pattern source = if is_apart source then keep_small (read_short source) else None
