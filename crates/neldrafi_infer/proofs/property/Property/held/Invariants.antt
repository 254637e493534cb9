use Rattle.std.proofs.Common.{List, All, take}
use Rattle.neldrafi_infer.specs.Hypotheses.{Seen}
use Rattle.neldrafi_infer.specs.Properties.{HoldsIn, IsPropertyOf}
use Rattle.neldrafi_infer.proofs.property.Property.held.Given as goal

-- no hypothesis so far is one of the group that holds
abbrev pub invariant-loop-tally : goal.invariant-loop-tally
invariant-loop-tally l = (ss : List Seen) → IsPropertyOf ss l.self
    → All (λ t. HoldsIn l.group ss t.hypothesis → ⊥) (take l.tally-index l.self.tallies.items)
