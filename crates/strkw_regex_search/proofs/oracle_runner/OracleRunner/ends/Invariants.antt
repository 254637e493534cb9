use Rattle.std.proofs.Common.{◌≡◌, ◌++◌, length}
use Rattle.std.specs.Str.{chars}
use Rattle.strkw_regex_search.specs.machine.Along.{left_of}
use Rattle.strkw_regex_search.specs.machine.Bits.{bits_of, rows_of}
use Rattle.strkw_regex_search.specs.machine.Machine.{pattern_of}
use Rattle.strkw_regex_core.specs.machine.Positions.{mark_classes}
use Rattle.strkw_regex_search.specs.machine.OracleRunners.{seeking_of}
use Rattle.strkw_regex_search.specs.machine.Seeking.{ends_from, row_of}
use Rattle.strkw_regex_search.proofs.oracle_runner.OracleRunner.ends.Given as goal

-- the answers so far, and those of what is left, are those of the text
abbrev pub invariant-characters : goal.invariant-characters
invariant-characters l = record {
  long : length l.marks ≡ 5200;
  to_come : l.ahead ≡ length (left_of l.left);
  so_far : bits_of l.bits ++ ends_from (rows_of l.rows) l.self.told.items (mark_classes l.marks (pattern_of l.self.program)) l.last (left_of l.left)
      ≡ row_of (rows_of l.rows) (chars l.text) (seeking_of l.self);
}

abbrev pub decreases-characters : goal.decreases-characters
decreases-characters l = length (left_of l.left)
