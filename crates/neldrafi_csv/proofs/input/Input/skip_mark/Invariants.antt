use Rattle.std.proofs.Common.{◌≡◌, ◌-◌, ◌+◌, ℕ, List, Some, length, true, false}
use Rattle.std.specs.Prelude.{if◌then◌else◌}
use Rattle.std.specs.Io.KnownBytes.{IsAtEnd}
use Rattle.neldrafi_csv.specs.machine.Inputs.{rest_of}
use Rattle.neldrafi_csv.proofs.input.Input.skip_mark.Given as goal

abbrev pub invariant-pieces : goal.invariant-pieces
invariant-pieces g l = record {
  text : (text : List ℕ) → rest_of g.R.Read.remaining l.fn.self ≡ Some text → rest_of g.R.Read.remaining l.self ≡ Some text;
  last : l.is_last ≡ true → IsAtEnd (g.R.Read.remaining l.self.source);
  place : l.self.place ≡ l.fn.self.place;
  begun : l.self.has_begun ≡ l.fn.self.has_begun;
}

abbrev pub decreases-pieces : goal.decreases-pieces
decreases-pieces g l = (3 - length l.self.buffer) + (if l.is_last then 0 else 1)
