use Rattle.std.proofs.Common.{◌≡◌}
use Rattle.csv.specs.Records.{fields_of}
use Rattle.neldrafi_table.specs.Headers.{numbers}
use Rattle.neldrafi_table.proofs.header.numbered.Given as goal

-- the numbers so far
abbrev pub invariant-loop-at : goal.invariant-loop-at
invariant-loop-at l = fields_of l.names ≡ numbers l.at
