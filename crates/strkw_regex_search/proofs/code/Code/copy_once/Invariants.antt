use Rattle.std.proofs.Common.{◌≡◌, ◌≤◌, ◌++◌, take, drop, length}
use Rattle.strkw_regex_search.proofs.code.Code.copy_once.Given as goal

abbrev pub invariant-loop-place : goal.invariant-loop-place
invariant-loop-place l = record {
  instructions : l.self.instructions.items ≡ l.fn.self.instructions.items ++ drop l.from (take l.place l.fn.self.instructions.items);
  classes : l.self.classes ≡ l.fn.self.classes;
  within : l.place ≤ length l.fn.self.instructions.items;
}
