use Rattle.std.proofs.Common.{◌≡◌, ◌≤◌, ◌+◌, drop}
use Rattle.neldrafi_schema.specs.Rules.{count_of}
use Rattle.neldrafi_schema.proofs.kinds.count_of.Given as goal

abbrev pub invariant-loop-verdict : goal.invariant-loop-verdict
invariant-loop-verdict l = record {
  counted : l.count + count_of (drop l.verdict-index l.verdicts) ≡ count_of l.verdicts;
  small : l.count ≤ l.verdict-index;
}
