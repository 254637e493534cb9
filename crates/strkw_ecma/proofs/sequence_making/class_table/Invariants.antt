use Rattle.std.proofs.Common.{◌≡◌, ◌<◌, ℕ, Some, false, get_or, length}
use Rattle.strkw_regex_search.specs.machine.Machine.{class_reads}
use Rattle.strkw_ecma.proofs.sequence_making.class_table.Given as goal

abbrev pub invariant-loop-byte : goal.invariant-loop-byte
invariant-loop-byte l = record {
  long : length l.table ≡ 256;
  right : (b : ℕ) → b < l.byte → get_or l.table b false ≡ class_reads (Some b) (Some l.class);
}
