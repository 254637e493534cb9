use Rattle.std.proofs.Common.{◌≡◌, ◌<◌, ◌≤◌, ℕ, false, get_or, length, None}
use Rattle.strkw_regex_search.specs.machine.Bits.{rows_of}
use Rattle.strkw_regex_search.specs.machine.Seeking.{row_answer}
use Rattle.strkw_regex_search.specs.machine.OracleMarks.{told_mark}
use Rattle.strkw_regex_search.proofs.oracle_runner.tell.Given as goal

-- the marks so far are told, and the others are as they were
abbrev pub invariant-loop-place : goal.invariant-loop-place
invariant-loop-place l = record {
  long : length l.marks ≡ length l.initial.marks;
  so_far : (k : ℕ) → k < l.place → k < length l.marks
      → get_or l.marks k false ≡ told_mark (row_answer (rows_of l.rows) l.ahead) (get_or l.told k None) (get_or l.initial.marks k false);
  others : (k : ℕ) → l.place ≤ k → get_or l.marks k false ≡ get_or l.initial.marks k false;
}
