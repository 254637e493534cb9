use Rattle.std.proofs.Common.{◌≡◌, ◌-◌, ◌+◌, ℕ, List, Some, length, true}
use Rattle.std.specs.Prelude.{◌^◌, if◌then◌else◌}
use Rattle.std.specs.Io.KnownBytes.{IsAtEnd}
use Rattle.neldrafi_csv.specs.machine.Inputs.{rest_of}
use Rattle.neldrafi_csv.specs.machine.Spans.{AreTaken}
use Rattle.neldrafi_csv.proofs.reader.RecordReader.take_record.Given as goal

abbrev pub invariant-pieces : goal.invariant-pieces
invariant-pieces g l = record {
  text : (text : List ℕ) → rest_of g.R.Read.remaining l.fn.self.input ≡ Some text → rest_of g.R.Read.remaining l.self.input ≡ Some text;
  fields : AreTaken l.self.delimiter.byte l.self.input.buffer l.self.fields;
  last : l.is_last ≡ true → IsAtEnd (g.R.Read.remaining l.self.input.source);
  place : l.self.input.place ≡ l.fn.self.input.place;
  begun : l.self.input.has_begun ≡ l.fn.self.input.has_begun;
  delimiter : l.self.delimiter ≡ l.fn.self.delimiter;
  taken : l.self.taken ≡ l.fn.self.taken;
}

abbrev pub decreases-pieces : goal.decreases-pieces
decreases-pieces g l = (2 ^ 64 - length l.self.input.buffer) + (if l.is_last then 0 else 1)
