-- That the search by a table is that of a pattern.
use Rattle.std.specs.Prelude.{length}
use Rattle.strkw_regex_core.specs.machine.MarkedPattern.{MarkedPattern}
use Rattle.strkw_charset.specs.machine.CharClasses.{column_of}
use Rattle.strkw_ecma.specs.machine.Dfa.{Searches}
use Rattle.strkw_ecma.specs.declared.dfa.Dfa.{Dfa}

abbrev pub IsSearchedBy : Dfa → MarkedPattern → Type 0
IsSearchedBy t p = Searches (column_of t.columns.classes.items t.columns.keys.items)
    (length t.columns.keys.items) t.entries.items p
