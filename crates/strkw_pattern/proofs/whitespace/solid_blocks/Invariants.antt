use Rattle.std.proofs.Common.{◌≡◌, ◌≤◌, ◌-◌, length, take, false}
use Rattle.std.specs.List.{list_any}
use Rattle.strkw_pattern.specs.Whitespace.{may_begin}
use Rattle.strkw_pattern.proofs.whitespace.solid_blocks.Given as goal

abbrev pub invariant-loop-run : goal.invariant-loop-run
invariant-loop-run l = (l.run ≤ length l.bytes) × (list_any may_begin (take l.run l.bytes) ≡ false)

abbrev pub decreases-loop-run : goal.decreases-loop-run
decreases-loop-run l = length l.bytes - l.run
