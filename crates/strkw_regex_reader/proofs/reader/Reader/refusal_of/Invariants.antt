use Rattle.std.proofs.Common.{◌≡◌, length, take, drop, true}
use Rattle.std.specs.Str.{chars}
use Rattle.strkw_regex_grammar.specs.machine.Lexing.{read_from}
use Rattle.strkw_regex_reader.specs.machine.BuilderParts.{state_of}
use Rattle.strkw_regex_reader.specs.machine.Building.{step}
use Rattle.strkw_regex_reader.specs.machine.Reading.{initial}
use Rattle.strkw_regex_reader.proofs.Stands.{Stands}
use Rattle.strkw_regex_reader.proofs.reader.Reader.refusal_of.Given as goal

abbrev pub invariant-loop-c : goal.invariant-loop-c
invariant-loop-c l = record {
  way : read_from true step (state_of l.self) (drop (length l.yielded) (chars l.source)) ≡ read_from true step initial (chars l.source);
  stands : Stands (state_of l.self) (take (length l.yielded) (chars l.source));
}
