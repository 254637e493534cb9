use Rattle.std.proofs.Common.{◌≡◌, ◌∙◌, ◌++◌, [], ap, append-nil, inl, inr, sym}
use Rattle.std.specs.Iterator.Adapters.{zip_first, zip_second}
use Rattle.std.specs.Slice.Iter.{iter_rest}
use Rattle.neldrafi_schema.specs.Rules.{valid_of}
use Rattle.neldrafi_schema.specs.machine.Compiled.{target_of, targets_of}
use Rattle.neldrafi_schema.proofs.Items.{no_targets, no_verdicts}
use Rattle.neldrafi_schema.proofs.targets.valid_of.Goals as goal

pub returns : goal.returns
returns c =
    let first = zip_first c.loop-target.target-iterator in
    let verdicts = iter_rest (zip_second c.loop-target.target-iterator) in
    let ended : valid_of (targets_of first.rest.items) verdicts ≡ [] = elim c.in-None.ensures.steps [
      | inl p ↦ no_targets target_of first.rest.items verdicts (sym first.rest.ok.0 ∙ p.1.0)
      | inr p ↦ no_verdicts target_of first.rest.items verdicts p.1.0
    ] in
    sym (append-nil (targets_of c.loop-target.valid.items)) ∙ ap (λ ts. targets_of c.loop-target.valid.items ++ ts) (sym ended) ∙ c.loop-target.invariant
