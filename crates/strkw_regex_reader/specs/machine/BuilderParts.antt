-- What the builder of the code holds: of all that has been read, the patterns that it stands for.
use Rattle.std.specs.Prelude.{map, reverse, option_map}
use Rattle.strkw_regex_core.specs.machine.Shape.{outline_pattern}
use Rattle.strkw_regex_grammar.specs.machine.LexerParts.{mode_of}
use Rattle.strkw_regex_grammar.specs.machine.Lexing.{Read, at}
use Rattle.strkw_regex_reader.specs.machine.Building.{Level, Last, none, atom, lead, counted, Open}
use Rattle.strkw_regex_reader.specs.machine.Building.{Builder, Built, takes, refuses}
use Rattle.strkw_regex_reader.specs.machine.Reading.{Outcome, goes_on, stops}
use Rattle.strkw_regex_reader.specs.declared.builder.level.Level.{Level as CodeLevel}
use Rattle.strkw_regex_reader.specs.declared.builder.Open.{Open as CodeOpen}
use Rattle.strkw_regex_reader.specs.declared.builder.Builder.{Builder as CodeBuilder}
use Rattle.strkw_regex_reader.specs.declared.builder.Last.{Last as CodeLast}
use Rattle.strkw_regex_reader.specs.declared.builder.Last.TheVariants as last
use Rattle.strkw_regex_reader.specs.declared.refusals.Taken.{Taken as CodeTaken}
use Rattle.strkw_regex_reader.specs.declared.refusals.Taken.TheVariants as taken
use Rattle.strkw_regex_reader.specs.declared.reader.Reader.{Reader}

abbrev pub level_of : CodeLevel → Level
level_of l =
    record { earlier = option_map outline_pattern l.earlier; current = outline_pattern l.current }

abbrev pub open_of : CodeOpen → Open
open_of o = record { enclosing = o.enclosing; level = level_of o.level }

abbrev pub last_of : CodeLast → Last
last_of last.None = none
last_of (last.Atom t) = atom (outline_pattern t)
last_of (last.Lead n) = lead n
last_of (last.Counted t) = counted (outline_pattern t)

abbrev pub builder_of : CodeBuilder → Builder
builder_of b = record {
  groups = reverse (map open_of b.groups.items);
  names = map (λ n. n.items) b.names.items;
  level = level_of b.level;
  last = last_of b.last;
}

-- beside what is then built
abbrev pub built_of : CodeTaken → Builder → Built
built_of taken.Takes s = takes s
built_of (taken.Refuses w) s = refuses w

abbrev pub outcome_of : CodeTaken → Read Builder → Outcome
outcome_of taken.Takes r = goes_on r
outcome_of (taken.Refuses w) r = stops w

abbrev pub state_of : Reader → Read Builder
state_of r = at (mode_of r.mode) (builder_of r.builder)
