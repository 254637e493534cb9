use Rattle.std.proofs.Common.{◌≡◌, ◌+◌, ◌<◌, length, drop, IsUtf8}
use Rattle.std.specs.Str.{chars}
use Rattle.strkw_charset.specs.machine.CharClasses.{column_of}
use Rattle.strkw_ecma.specs.machine.Dfa.{walk}
use Rattle.strkw_ecma.proofs.dfa.Dfa.is_found.Given as goal

-- the walk over what is left
abbrev pub invariant-loop-place : goal.invariant-loop-place
invariant-loop-place l = record {
  inside : l.row + l.rows.end < length l.rows.entries.now;
  utf8 : IsUtf8 (drop l.place l.text);
  so_far : walk (column_of l.self.columns.classes.items l.self.columns.keys.items) l.rows.end l.rows.entries.now l.row
      (chars (drop l.place l.text))
      ≡ walk (column_of l.self.columns.classes.items l.self.columns.keys.items) l.rows.end l.rows.entries.now 0 (chars l.text);
}
