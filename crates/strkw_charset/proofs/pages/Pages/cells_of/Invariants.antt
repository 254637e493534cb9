use Rattle.std.proofs.Common.{◌≡◌, ◌+◌, ◌-◌, ◌≤◌, ◌<◌, ℕ, Some, length, get_or}
use Rattle.std.specs.Char.{InScalarRange}
use Rattle.strkw_charset.specs.machine.CharClasses.{column_of, ShareColumn, IsPaged}
use Rattle.strkw_charset.proofs.pages.Pages.cells_of.Given as goal

-- the cells up to a place are right, and the run goes on behind them
abbrev pub invariant-runs : goal.invariant-runs
invariant-runs l = record {
  within : l.place ≤ 64;
  cells : length l.page ≡ 64;
  pages : l.self.pages ≡ l.fn.self.pages;
  paged : IsPaged l.classes l.self;
  end : l.run.end ≤ 0x110000;
  shared : ShareColumn l.classes l.self.keys.items (l.first + l.place) l.run.end l.run.column;
  right : (j : ℕ) → j < l.place → InScalarRange (l.first + j) → column_of l.classes l.self.keys.items (l.first + j) ≡ Some (get_or l.page j 0);
}

abbrev pub decreases-runs : goal.decreases-runs
decreases-runs l = 64 - l.place
