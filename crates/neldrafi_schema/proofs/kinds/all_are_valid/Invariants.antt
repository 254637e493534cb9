use Rattle.std.proofs.Common.{◌≡◌, drop}
use Rattle.std.specs.List.{list_all}
use Rattle.neldrafi_schema.proofs.kinds.all_are_valid.Given as goal

abbrev pub invariant-loop-verdict : goal.invariant-loop-verdict
invariant-loop-verdict l = list_all (λ v. v) l.verdicts ≡ list_all (λ v. v) (drop l.verdict-index l.verdicts)
