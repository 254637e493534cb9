use Rattle.std.proofs.Common.{◌-◌, length}
use Rattle.neldrafi_csv.specs.machine.Spans.{AreTaken}
use Rattle.neldrafi_csv.proofs.fields.Fields.take.Given as goal

-- fields were taken, and the delimiters behind them
abbrev pub invariant-fields : goal.invariant-fields
invariant-fields l = AreTaken l.delimiter.byte l.bytes l.self

abbrev pub decreases-fields : goal.decreases-fields
decreases-fields l = length l.bytes - l.self.start
