use Rattle.std.proofs.Common.{drop, length}
use Rattle.neldrafi_position.specs.Parts.{parts}
use Rattle.neldrafi_position.specs.machine.Walks.{EndOf}
use Rattle.neldrafi_position.proofs.MemberLemmas.{AreMade}
use Rattle.neldrafi_position.proofs.starts.member_starts.Given as goal

abbrev pub invariant-loop-key : goal.invariant-loop-key
invariant-loop-key l = record {
  end : EndOf l.text l.rest;
  made : AreMade l.text (parts l.rest) (parts (drop l.inside l.text)) l.starts;
}

abbrev pub decreases-loop-key : goal.decreases-loop-key
decreases-loop-key l = length l.rest
