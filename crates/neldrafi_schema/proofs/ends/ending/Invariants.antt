use Rattle.std.proofs.Common.{◌≡◌, ℕ}
use Rattle.neldrafi_schema.specs.machine.Compiled.{schemas_of}
use Rattle.neldrafi_schema.specs.Refusals.{ends}
use Rattle.neldrafi_schema.specs.machine.Said.{flag_at}
use Rattle.neldrafi_schema.proofs.ends.ending.Given as goal

abbrev pub invariant-loop-step : goal.invariant-loop-step
invariant-loop-step g l = (n : ℕ) → flag_at l.end.items n ≡ ends (schemas_of g.E.RegexEngine.outcome l.nodes) l.step n
