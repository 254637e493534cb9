use Rattle.std.proofs.Common.{length, ◌-◌}
use Rattle.strkw_bench.proofs.uri.plain_loop.Given as goal

abbrev pub decreases-loop-i : goal.decreases-loop-i
decreases-loop-i l = length l.bytes - l.i
