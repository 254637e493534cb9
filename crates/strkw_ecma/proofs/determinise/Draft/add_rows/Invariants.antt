use Rattle.std.proofs.Common.{◌≤◌, ◌-◌, length}
use Rattle.strkw_regex_core.specs.machine.Positions.{classes}
use Rattle.strkw_regex_search.specs.machine.Machine.{pattern_of}
use Rattle.strkw_ecma.specs.machine.Dfa.{IsDraft}
use Rattle.strkw_ecma.proofs.determinise.Draft.add_rows.Given as goal

abbrev pub invariant-rows : goal.invariant-rows
invariant-rows l = record {
  fits : classes (pattern_of l.program) ≤ length l.at_hand.items;
  few : l.number ≤ l.most_rows;
  draft : IsDraft (pattern_of l.program) l.samples l.self.entries.items l.self.states.items l.number;
}

abbrev pub decreases-rows : goal.decreases-rows
decreases-rows l = l.most_rows - l.number
