use Rattle.std.proofs.Common.{◌≡◌, drop}
use Rattle.std.specs.List.{list_any}
use Rattle.neldrafi_schema.proofs.kinds.any_is_valid.Given as goal

abbrev pub invariant-loop-verdict : goal.invariant-loop-verdict
invariant-loop-verdict l = list_any (λ v. v) l.verdicts ≡ list_any (λ v. v) (drop l.verdict-index l.verdicts)
