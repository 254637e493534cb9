use Rattle.std.proofs.Common.{ℕ, ◌≡◌, ◌≤◌, ◌<◌, true}
use Rattle.strkw_uri.specs.Lanes.{goes_on}
use Rattle.strkw_uri.specs.Scan.{is_part_char}
use Rattle.strkw_uri.specs.declared.part.Syntax.TheVariants.{Rfc3986}
use Rattle.strkw_uri.proofs.plain.run.Given as goal

abbrev pub invariant-loop-i : goal.invariant-loop-i
invariant-loop-i l = (k : ℕ) → l.from ≤ k → k < l.i → goes_on (is_part_char Rfc3986 l.part) l.bytes k ≡ true
