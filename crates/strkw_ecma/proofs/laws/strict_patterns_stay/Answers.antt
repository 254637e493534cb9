use Rattle.strkw_ecma.proofs.Exact.{exact}
use Rattle.strkw_ecma.proofs.StrictPatterns.{stays}
use Rattle.strkw_ecma.proofs.laws.strict_patterns_stay.Goals as goal

pub returns : goal.returns
returns c = record {
  valid = stays;
  taken = λ source h. let d = (exact source).derived h in stays source (d.0, d.1.made);
}
