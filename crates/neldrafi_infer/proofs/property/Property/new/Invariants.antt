use Rattle.std.proofs.Common.{◌≡◌, [], All, map, take}
use Rattle.neldrafi_infer.specs.Tallies.{IsTallied}
use Rattle.neldrafi_infer.specs.Properties.{hypotheses}
use Rattle.neldrafi_infer.proofs.property.Property.new.Given as goal

-- a tally of each hypothesis so far
abbrev pub invariant-loop-hypothesis : goal.invariant-loop-hypothesis
invariant-loop-hypothesis l = record {
  all : l.hypothesis-items ≡ hypotheses;
  made : map (λ t. t.hypothesis) l.tallies.items ≡ take l.hypothesis-index l.hypothesis-items;
  tallied : All (IsTallied []) l.tallies.items;
}
