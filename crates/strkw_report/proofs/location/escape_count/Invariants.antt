use Rattle.std.proofs.Common.{◌≡◌, ◌≤◌, take}
use Rattle.strkw_report.specs.Paths.{escaped_segment}
use Rattle.strkw_report.proofs.location.escape_count.Given as goal

abbrev pub invariant-loop-byte : goal.invariant-loop-byte
invariant-loop-byte l = (l.count ≤ l.byte-index) × (l.count ≡ 0 → escaped_segment (take l.byte-index l.segment) ≡ take l.byte-index l.segment)
