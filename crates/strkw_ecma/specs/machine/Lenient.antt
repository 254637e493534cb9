-- Which patterns are taken where they need not be of mode `u`, and what they come to.
use Rattle.std.specs.Prelude.{ℕ, Bool, List}
use Rattle.strkw_pattern.specs.declared.engine.Outcome.{Outcome}
use Rattle.strkw_regex_reader.specs.machine.Taken.{takes_pattern}
use Rattle.strkw_ecma.specs.Lenient.{strict_form}
use Rattle.strkw_ecma.specs.machine.Outcomes.{pattern_outcome}

-- those of the strict form
abbrev pub takes_leniently : List ℕ → Bool
takes_leniently source = takes_pattern (strict_form source)

abbrev pub lenient_outcome : List ℕ → List ℕ → Outcome
lenient_outcome source = pattern_outcome (strict_form source)
