use Rattle.std.proofs.Common.{◌≡◌, ◌+◌, ◌-◌, ◌<◌, length, drop, IsUtf8}
use Rattle.std.specs.Str.{chars}
use Rattle.strkw_charset.specs.machine.CharClasses.{column_of}
use Rattle.strkw_ecma.specs.machine.Dfa.{walk}
use Rattle.strkw_ecma.proofs.dfa.Dfa.is_found_behind.Given as goal

-- the walk over what is left
abbrev pub invariant-characters : goal.invariant-characters
invariant-characters l = record {
  inside : l.row + l.rows.end < length l.rows.entries.now;
  utf8 : IsUtf8 (drop l.place l.left);
  so_far : walk (column_of l.self.columns.classes.items l.self.columns.keys.items) l.rows.end l.rows.entries.now l.row
      (chars (drop l.place l.left))
      ≡ walk (column_of l.self.columns.classes.items l.self.columns.keys.items) l.rows.end l.rows.entries.now l.fn.row
      (chars l.left);
}

abbrev pub decreases-characters : goal.decreases-characters
decreases-characters l = length l.left - l.place
