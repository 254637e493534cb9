-- Which patterns are taken.
use Rattle.std.specs.Prelude.{ℕ, Bool, List, is_some}
use Rattle.strkw_regex_reader.specs.machine.Reading.{read_pattern}

-- the builder's: of the text of a pattern
abbrev pub takes_pattern : List ℕ → Bool
takes_pattern source = is_some (read_pattern source)
