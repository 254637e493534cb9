use Rattle.std.proofs.Common.{◌*◌, ◌-◌, ◌≤◌, length}
use Rattle.strkw_charset.specs.machine.CharClasses.{ShareColumn, IsPaged}
use Rattle.strkw_charset.proofs.pages.pages_of.Given as goal

-- the pages so far are right, and the run goes on behind them
abbrev pub invariant-pages : goal.invariant-pages
invariant-pages l = record {
  few : length l.made.pages.items ≤ 17408;
  end : l.run.end ≤ 0x110000;
  paged : IsPaged l.classes l.made;
  shared : ShareColumn l.classes l.made.keys.items (length l.made.pages.items * 64) l.run.end l.run.column;
}

abbrev pub decreases-pages : goal.decreases-pages
decreases-pages l = 17408 - length l.made.pages.items
