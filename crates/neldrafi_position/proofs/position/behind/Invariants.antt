use Rattle.std.proofs.Common.{◌+◌, ◌≤◌, ◌++◌, ℕ, List, take}
use Rattle.neldrafi_position.specs.machine.Marks.{IsBehind}
use Rattle.neldrafi_position.proofs.position.behind.Given as goal

abbrev pub invariant-loop-byte : goal.invariant-loop-byte
invariant-loop-byte l = record {
  line : l.position.line ≤ l.fn.front.line + l.byte-index;
  column : l.position.column ≤ l.fn.front.column + l.byte-index;
  behind : (text : List ℕ) → IsBehind text l.fn.front → IsBehind (text ++ take l.byte-index l.bytes) l.position;
}
