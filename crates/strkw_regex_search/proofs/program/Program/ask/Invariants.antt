use Rattle.std.proofs.Common.{◌≡◌, ◌≤◌, ◌+◌, ◌*◌, drop, length}
use Rattle.strkw_regex_core.specs.machine.Program.{read_count}
use Rattle.strkw_regex_search.specs.machine.Walk.{asked}
use Rattle.strkw_regex_search.specs.machine.Machine.{program_of, asked_of}
use Rattle.strkw_regex_search.proofs.program.Program.ask.Given as goal

abbrev pub invariant-back : goal.invariant-back
invariant-back l = record {
  within : l.place ≤ length l.self.code.instructions.items;
  counted : l.at + read_count (drop l.place (program_of l.self)) ≡ l.self.marks;
  asked : asked_of l.ahead l.walk ≡ asked l.last l.next (drop l.place (program_of l.self)) (drop l.at l.marks);
  around : 10400 + 2 * l.place ≤ l.walk.around.first + 2 * length l.self.code.instructions.items;
  again : 10400 + l.place ≤ l.walk.again.first + length l.self.code.instructions.items;
}

abbrev pub decreases-back : goal.decreases-back
decreases-back l = l.place
