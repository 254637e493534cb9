use Rattle.strkw_ecma.specs.machine.Dfa.{SayTheSame}
use Rattle.strkw_ecma.proofs.runs.mark_row.Given as goal

abbrev pub invariant-loop-column : goal.invariant-loop-column
invariant-loop-column l = SayTheSame l.end l.initial.entries l.entries
