use Rattle.std.proofs.Common.{◌≡◌, ◌+◌, ◌<◌, true, length}
use Rattle.std.specs.Str.{chars}
use Rattle.strkw_regex_core.specs.machine.Mirror.{along}
use Rattle.strkw_regex_search.specs.machine.Along.{left_of}
use Rattle.strkw_charset.specs.machine.CharClasses.{column_of}
use Rattle.strkw_ecma.specs.machine.Dfa.{walk}
use Rattle.strkw_ecma.proofs.dfa.Dfa.is_found_back.Given as goal

-- the walk over what is left
abbrev pub invariant-characters : goal.invariant-characters
invariant-characters l = record {
  inside : l.row + l.rows.end < length l.rows.entries.now;
  so_far : walk (column_of l.self.columns.classes.items l.self.columns.keys.items) l.rows.end l.rows.entries.now l.row
      (left_of l.left)
      ≡ walk (column_of l.self.columns.classes.items l.self.columns.keys.items) l.rows.end l.rows.entries.now 0
      (along true (chars l.text));
}

abbrev pub decreases-characters : goal.decreases-characters
decreases-characters l = length (left_of l.left)
