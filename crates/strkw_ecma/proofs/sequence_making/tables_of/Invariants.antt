use Rattle.std.proofs.Common.{◌≡◌, ℕ, Bool, List, Some, length, slice_get}
use Rattle.strkw_ecma.specs.machine.Links.{IsTableOf}
use Rattle.strkw_ecma.proofs.sequence_making.tables_of.Given as goal

abbrev pub invariant-loop-class : goal.invariant-loop-class
invariant-loop-class l = record {
  so_many : length l.tables.items ≡ l.class-index;
  right : (n : ℕ) (table : List Bool) → slice_get l.tables.items n ≡ Some table → IsTableOf (slice_get l.classes n) table;
}
