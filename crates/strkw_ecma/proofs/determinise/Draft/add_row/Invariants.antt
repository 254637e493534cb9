use Rattle.strkw_regex_search.specs.machine.Machine.{pattern_of}
use Rattle.strkw_ecma.specs.machine.Dfa.{AreEntries}
use Rattle.strkw_ecma.proofs.determinise.Draft.add_row.Given as goal

-- the entries so far are right
abbrev pub invariant-loop-column : goal.invariant-loop-column
invariant-loop-column l =
    AreEntries (pattern_of l.program) l.samples l.initial.self.entries.items l.self.entries.items l.initial.self.states.items l.self.states.items l.number
    l.column
