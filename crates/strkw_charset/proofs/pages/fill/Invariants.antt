use Rattle.std.proofs.Common.{◌≡◌, ◌≤◌, ◌<◌, ℕ, length, get_or}
use Rattle.strkw_charset.proofs.pages.fill.Given as goal

abbrev pub invariant-loop-place : goal.invariant-loop-place
invariant-loop-place l = record {
  length : length l.page ≡ 64;
  filled : (j : ℕ) → l.from ≤ j → j < l.place → get_or l.page j 0 ≡ l.column;
  before : (j : ℕ) → j < l.from → get_or l.page j 0 ≡ get_or l.fn.page j 0;
}
