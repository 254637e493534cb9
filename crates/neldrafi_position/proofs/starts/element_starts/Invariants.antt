use Rattle.std.proofs.Common.{drop, length}
use Rattle.neldrafi_position.specs.Parts.{behind_separators, parts}
use Rattle.neldrafi_position.specs.machine.Walks.{EndOf}
use Rattle.neldrafi_position.proofs.ElementLemmas.{AreElementsMade}
use Rattle.neldrafi_position.proofs.starts.element_starts.Given as goal

abbrev pub invariant-loop-behind : goal.invariant-loop-behind
invariant-loop-behind l = record {
  end : EndOf l.text l.rest;
  made : AreElementsMade l.text (behind_separators 0 l.rest) (parts (drop l.inside l.text)) l.starts.items;
}

abbrev pub decreases-loop-behind : goal.decreases-loop-behind
decreases-loop-behind l = length l.rest
