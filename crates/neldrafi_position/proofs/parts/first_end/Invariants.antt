use Rattle.std.proofs.Common.{◌≡◌, ◌≤◌, drop}
use Rattle.neldrafi_position.specs.Parts.{behind_separators}
use Rattle.neldrafi_position.specs.machine.Walks.{parts_left}
use Rattle.neldrafi_position.proofs.parts.first_end.Given as goal

abbrev pub invariant-loop-index : goal.invariant-loop-index
invariant-loop-index l = record {
  few : l.depth ≤ l.index;
  left : parts_left l.within l.depth (drop l.index l.bytes) ≡ behind_separators 0 l.bytes;
}
