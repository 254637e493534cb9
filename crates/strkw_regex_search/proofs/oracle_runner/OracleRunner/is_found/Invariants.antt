use Rattle.std.proofs.Common.{◌≡◌, None, length}
use Rattle.std.specs.Str.{chars}
use Rattle.strkw_regex_core.specs.machine.Mirror.{along}
use Rattle.strkw_regex_search.specs.machine.Along.{left_of}
use Rattle.strkw_regex_search.specs.machine.Bits.{rows_of}
use Rattle.strkw_regex_search.specs.machine.Machine.{pattern_of}
use Rattle.strkw_regex_core.specs.machine.Positions.{mark_classes}
use Rattle.strkw_regex_search.specs.machine.Seeking.{ends_within}
use Rattle.strkw_regex_search.proofs.oracle_runner.OracleRunner.is_found.Given as goal

-- the search of what is left comes to what that of the text does
abbrev pub invariant-characters : goal.invariant-characters
invariant-characters l = record {
  long : length l.marks ≡ 5200;
  to_come : l.ahead ≡ length (left_of l.left);
  so_far : ends_within (rows_of l.rows) l.self.told.items (mark_classes l.marks (pattern_of l.self.program)) l.last (left_of l.left)
      ≡ ends_within (rows_of l.rows) l.self.told.items (pattern_of l.self.program) None (along l.self.is_backward (chars l.text));
}

abbrev pub decreases-characters : goal.decreases-characters
decreases-characters l = length (left_of l.left)
