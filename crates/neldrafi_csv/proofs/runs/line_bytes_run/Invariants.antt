use Rattle.std.proofs.Common.{take}
use Rattle.neldrafi_csv.specs.Lines.{AreLineBytes}
use Rattle.neldrafi_csv.proofs.runs.line_bytes_run.Given as goal

abbrev pub invariant-loop-at : goal.invariant-loop-at
invariant-loop-at l = AreLineBytes (take l.at l.bytes)
