use Rattle.std.proofs.Common.{◌≡◌, ◌++◌, drop, length}
use Rattle.strkw_ecma.specs.machine.Chains.{once}
use Rattle.strkw_ecma.proofs.sequence_making.once_numbers.Given as goal

abbrev pub invariant-loop-instruction : goal.invariant-loop-instruction
invariant-loop-instruction l = record {
  so_many : length l.numbers.items ≡ l.instruction-index;
  so_far : l.instructions ≡ once l.numbers.items ++ drop l.instruction-index l.instructions;
}
