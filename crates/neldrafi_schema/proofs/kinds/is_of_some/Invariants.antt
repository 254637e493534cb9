use Rattle.std.proofs.Common.{◌≡◌, drop}
use Rattle.std.specs.List.{list_any}
use Rattle.serde_json.specs.View.{view}
use Rattle.neldrafi_schema.specs.Types.{counts_as}
use Rattle.neldrafi_schema.proofs.kinds.is_of_some.Given as goal

-- it is of none of the types so far
abbrev pub invariant-loop-kind : goal.invariant-loop-kind
invariant-loop-kind l = list_any (λ t. counts_as l.floats t (view l.instance)) l.types ≡ list_any (λ t. counts_as l.floats t (view l.instance)) (drop l.kind-index l.types)
