-- How often a quantifier of the grammar repeats.
use Rattle.strkw_regex_core.specs.machine.Times.{Times, times_of}
use Rattle.strkw_regex_grammar.specs.Syntax.{Quantifier}
use Rattle.strkw_regex_reader.specs.Patterns.{least, most}

abbrev pub times : Quantifier → Times
times q = times_of (least q) (most q)
