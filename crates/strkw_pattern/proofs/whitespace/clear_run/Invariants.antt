use Rattle.std.proofs.Common.{◌≡◌, take, false}
use Rattle.std.specs.List.{list_any}
use Rattle.strkw_pattern.specs.Whitespace.{may_begin}
use Rattle.strkw_pattern.proofs.whitespace.clear_run.Given as goal

abbrev pub invariant-loop-i : goal.invariant-loop-i
invariant-loop-i l = list_any may_begin (take l.i l.bytes) ≡ false
