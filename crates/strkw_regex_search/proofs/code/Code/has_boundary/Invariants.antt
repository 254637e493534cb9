use Rattle.std.proofs.Common.{◌≡◌, drop}
use Rattle.strkw_regex_core.specs.machine.Program.{asks_boundary}
use Rattle.strkw_regex_search.specs.machine.Instructions.{instructions}
use Rattle.strkw_regex_search.specs.machine.Machine.{instructions_of}
use Rattle.strkw_regex_search.proofs.code.Code.has_boundary.Given as goal

abbrev pub invariant-loop-instruction : goal.invariant-loop-instruction
invariant-loop-instruction l =
    asks_boundary (instructions_of l.self) ≡ asks_boundary (instructions l.self.classes.items (drop l.instruction-index l.self.instructions.items))
