use Rattle.strkw_ecma.specs.machine.Dfa.{SayTheSame}
use Rattle.strkw_ecma.proofs.runs.mark_runs.Given as goal

abbrev pub invariant-loop-number : goal.invariant-loop-number
invariant-loop-number l = SayTheSame l.end l.initial.entries l.entries
