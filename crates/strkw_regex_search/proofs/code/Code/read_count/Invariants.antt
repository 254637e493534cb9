use Rattle.std.proofs.Common.{◌≡◌, ◌≤◌, ◌+◌, drop}
use Rattle.strkw_regex_core.specs.machine.Program.{read_count}
use Rattle.strkw_regex_search.specs.machine.Instructions.{instructions}
use Rattle.strkw_regex_search.specs.machine.Machine.{instructions_of}
use Rattle.strkw_regex_search.proofs.code.Code.read_count.Given as goal

abbrev pub invariant-loop-instruction : goal.invariant-loop-instruction
invariant-loop-instruction l = record {
  counted : l.count + read_count (instructions l.self.classes.items (drop l.instruction-index l.self.instructions.items)) ≡ read_count (instructions_of l.self);
  few : l.count ≤ l.instruction-index;
}
