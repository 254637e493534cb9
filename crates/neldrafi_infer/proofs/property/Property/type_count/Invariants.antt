use Rattle.std.proofs.Common.{◌≡◌, All, take}
use Rattle.neldrafi_infer.specs.declared.hypotheses.Hypothesis.TheVariants.{OfType}
use Rattle.neldrafi_infer.proofs.property.Property.type_count.Given as goal

-- no hypothesis so far is this
abbrev pub invariant-loop-tally : goal.invariant-loop-tally
invariant-loop-tally l = All (λ t. t.hypothesis ≡ OfType l.fn.of_type → ⊥) (take l.tally-index l.self.tallies.items)
