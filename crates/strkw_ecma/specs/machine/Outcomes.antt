-- Which patterns are taken, and what they come to.
use Rattle.std.specs.Prelude.{ℕ, List, Option, Some, None}
use Rattle.strkw_pattern.specs.Matcher.{outcome_of}
use Rattle.strkw_pattern.specs.declared.engine.Outcome.{Outcome}
use Rattle.strkw_pattern.specs.declared.engine.Outcome.TheVariants.{NoMatch}
use Rattle.strkw_regex_core.specs.machine.MarkedPattern.{MarkedPattern}
use Rattle.strkw_regex_reader.specs.machine.Reading.{read_pattern}
use Rattle.strkw_regex_core.specs.machine.LeadingLookahead.{parts}
use Rattle.strkw_regex_search.specs.machine.Search.{are_parts_found}

-- what the search of a pattern comes to
abbrev pub search_outcome : MarkedPattern → List ℕ → Outcome
search_outcome p text = outcome_of (are_parts_found (parts p) text)

abbrev pub outcome_of_read : Option MarkedPattern → List ℕ → Outcome
outcome_of_read None text = NoMatch
outcome_of_read (Some p) text = search_outcome p text

abbrev pub pattern_outcome : List ℕ → List ℕ → Outcome
pattern_outcome source = outcome_of_read (read_pattern source)
