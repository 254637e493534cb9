use Rattle.std.proofs.Common.{◌≡◌, false, take}
use Rattle.strkw_regex_core.specs.machine.Program.{has_loop}
use Rattle.strkw_regex_search.specs.machine.Machine.{instructions_of}
use Rattle.strkw_regex_search.proofs.code.Code.before_loops.Given as goal

abbrev pub invariant-loop-place : goal.invariant-loop-place
invariant-loop-place l = has_loop (take l.place (instructions_of l.self)) ≡ false
