use Rattle.std.proofs.Common.{◌≡◌, drop}
use Rattle.std.specs.Str.{IsCharBoundary}
use Rattle.neldrafi_position.specs.Parts.{behind_space}
use Rattle.neldrafi_position.proofs.parts.behind_space.Given as goal

abbrev pub invariant-loop-index : goal.invariant-loop-index
invariant-loop-index l = record {
  cut : IsCharBoundary l.text l.index;
  left : behind_space (drop l.index l.text) ≡ behind_space l.text;
}
