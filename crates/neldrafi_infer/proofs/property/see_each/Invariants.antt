use Rattle.std.proofs.Common.{◌≡◌, List, [], ◌∷◌, ◌++◌, All, length, map}
use Rattle.std.specs.List.{AllWithin}
use Rattle.neldrafi_infer.specs.Hypotheses.{Seen, seen}
use Rattle.neldrafi_infer.specs.Tallies.{IsTallied}
use Rattle.neldrafi_infer.proofs.property.see_each.Given as goal

-- the tallies so far have seen the value, and the others not yet
abbrev pub invariant-loop-tally : goal.invariant-loop-tally
invariant-loop-tally l = record {
  hypotheses : map (λ t. t.hypothesis) l.tallies ≡ map (λ t. t.hypothesis) l.fn.tallies;
  before : (ss : List Seen) → All (IsTallied ss) l.fn.tallies
      → AllWithin (IsTallied (ss ++ seen l.line l.kind l.text ∷ [])) l.tallies 0 l.tally-index;
  after : (ss : List Seen) → All (IsTallied ss) l.fn.tallies
      → AllWithin (IsTallied ss) l.tallies l.tally-index (length l.tallies);
}
