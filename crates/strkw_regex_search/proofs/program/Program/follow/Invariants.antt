use Rattle.std.proofs.Common.{◌≡◌, ◌≤◌, ◌+◌, ◌*◌, drop, take}
use Rattle.strkw_regex_core.specs.machine.Program.{read_count}
use Rattle.strkw_regex_search.specs.machine.Walk.{start_following, followed}
use Rattle.strkw_regex_search.specs.machine.Machine.{program_of, answers_of, following_of}
use Rattle.strkw_regex_search.proofs.Programs.{with_marks}
use Rattle.strkw_regex_search.proofs.program.Program.follow.Given as goal

abbrev pub invariant-loop-instruction : goal.invariant-loop-instruction
invariant-loop-instruction l = record {
  counted : l.at + read_count (drop l.instruction-index (program_of l.self)) ≡ l.self.marks;
  followed : followed l.last l.next (program_of l.self) (start_following (answers_of l.fn.walk.again)) l.fn.marks
      ≡ with_marks l.last l.next (take l.at l.marks)
      (followed l.last l.next (drop l.instruction-index (program_of l.self)) (following_of l.enters l.walk) (drop l.at l.marks));
  around : 10400 ≤ l.walk.around.first + 2 * l.instruction-index;
}
