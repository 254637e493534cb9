use Rattle.std.proofs.Common.{◌≡◌, ◌≤◌, ◌-◌, ℕ, length, drop}
use Rattle.ucd_table.specs.Steps.{run_value}
use Rattle.strkw_charset.proofs.ends.value_end.Given as goal

-- the runs that were passed have ended
abbrev pub invariant-loop-next : goal.invariant-loop-next
invariant-loop-next l = (d : ℕ) → l.c ≤ d → run_value l.runs d ≡ run_value (drop l.next l.runs) d

abbrev pub decreases-loop-next : goal.decreases-loop-next
decreases-loop-next l = length l.runs - l.next
