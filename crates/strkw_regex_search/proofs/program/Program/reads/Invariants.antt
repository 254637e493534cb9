use Rattle.std.proofs.Common.{◌≡◌, ◌<◌, ℕ, false, length, get_or, slice_get}
use Rattle.strkw_regex_search.specs.machine.Machine.{class_reads}
use Rattle.strkw_regex_search.proofs.program.Program.reads.Given as goal

abbrev pub invariant-loop-class : goal.invariant-loop-class
invariant-loop-class l = record {
  so_many : length l.reads.items ≡ l.class-index;
  right : (k : ℕ) → k < l.class-index → get_or l.reads.items k false ≡ class_reads l.next (slice_get l.self.code.classes.items k);
}
