use Rattle.std.proofs.Common.{ℕ, ◌≡◌, ◌*◌, ◌<◌, true}
use Rattle.strkw_uri.specs.Lanes.{goes_on}
use Rattle.strkw_uri.specs.Scan.{is_part_char}
use Rattle.strkw_uri.specs.declared.part.Syntax.TheVariants.{Rfc3986}
use Rattle.strkw_uri.proofs.lanes.run.Given as goal

abbrev pub invariant-loop-block : goal.invariant-loop-block
invariant-loop-block l = record {
  place : l.at ≡ l.block-index * 32;
  passed : (k : ℕ) → k < l.at → goes_on (is_part_char Rfc3986 l.part) l.bytes k ≡ true;
}
