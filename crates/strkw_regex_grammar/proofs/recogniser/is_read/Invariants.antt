use Rattle.std.proofs.Common.{◌≡◌, drop, length, false}
use Rattle.std.specs.Str.{chars}
use Rattle.strkw_regex_grammar.specs.machine.Lexing.{at, between, read_from}
use Rattle.strkw_regex_grammar.specs.machine.RecogniserParts.{state_of}
use Rattle.strkw_regex_grammar.specs.machine.Recognising.{nothing_read, step}
use Rattle.strkw_regex_grammar.proofs.recogniser.is_read.Given as goal

-- the rest leads where the text does
abbrev pub invariant-loop-c : goal.invariant-loop-c
invariant-loop-c l =
    read_from false step (state_of l.recogniser) (drop (length l.yielded) (chars l.source)) ≡ read_from false step (at between nothing_read) (chars l.source)
