use Rattle.std.proofs.Common.{◌≡◌, ◌<◌, ℕ, false, get_or, slice_get}
use Rattle.strkw_regex_search.specs.machine.Machine.{class_reads}
use Rattle.strkw_regex_search.proofs.program.Room.look.Given as goal

abbrev pub invariant-loop-number : goal.invariant-loop-number
invariant-loop-number l = (k : ℕ) → k < l.number → get_or l.self.reads k false ≡ class_reads l.next (slice_get l.classes k)
