use Rattle.std.proofs.Common.{◌≡◌, ◌<◌, ℕ, length, get_or}
use Rattle.strkw_charset.specs.machine.CharClasses.{cell_of}
use Rattle.strkw_ecma.proofs.representatives.ascii_of.Given as goal

abbrev pub invariant-loop-c : goal.invariant-loop-c
invariant-loop-c l = record {
  so_many : length l.ascii.items ≡ l.c;
  right : (c : ℕ) → c < length l.ascii.items → get_or l.ascii.items c 0 ≡ cell_of l.pages.pages.items l.pages.cells.items c;
}
