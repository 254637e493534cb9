use Rattle.std.proofs.Common.{ℕ, ◌<◌}
use Rattle.strkw_ecma.specs.machine.Dfa.{IsInside}
use Rattle.strkw_ecma.proofs.dfa.are_inside.Given as goal

-- those that were passed over
abbrev pub invariant-loop-place : goal.invariant-loop-place
invariant-loop-place l = (i : ℕ) → i < l.place → IsInside l.end l.entries i
