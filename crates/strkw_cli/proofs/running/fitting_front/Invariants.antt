use Rattle.std.proofs.Common.{◌≡◌, ℕ, List, ◌-◌, ◌≤◌, ◌++◌, length, take, Some}
use Rattle.strkw_cli.specs.Bounds.{HasShortLines}
use Rattle.strkw_cli.specs.Lines.{last_part}
use Rattle.strkw_cli.proofs.BoundLemmas.{Reaches}
use Rattle.strkw_cli.proofs.running.fitting_front.Given as goal

-- up to `at` no line is too long, and there is room for so many bytes of the line that goes on
abbrev pub invariant-loop-offset : goal.invariant-loop-offset
invariant-loop-offset l = record {
  within : l.at ≤ length l.piece;
  reaches : (start : List ℕ) → l.begun ≡ last_part start → HasShortLines (Some l.longest) start → Reaches l.longest (start ++ take l.at l.piece) l.room;
}

abbrev pub decreases-loop-offset : goal.decreases-loop-offset
decreases-loop-offset l = length l.piece - l.at
