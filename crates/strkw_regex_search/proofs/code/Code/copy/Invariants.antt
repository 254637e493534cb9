use Rattle.std.proofs.Common.{◌≡◌, ◌++◌, drop, length}
use Rattle.strkw_regex_core.specs.machine.Program.{concat_copies}
use Rattle.strkw_regex_search.proofs.code.Code.copy.Given as goal

abbrev pub invariant-loop : goal.invariant-loop
invariant-loop l = record {
  instructions : l.self.instructions.items ≡ l.fn.self.instructions.items ++ concat_copies l.counter (drop l.from l.fn.self.instructions.items);
  classes : l.self.classes ≡ l.fn.self.classes;
  end_is : l.end ≡ length l.fn.self.instructions.items;
}
