use Rattle.std.proofs.Common.{◌-◌, length}
use Rattle.neldrafi_csv.specs.machine.Scans.{IsInside}
use Rattle.neldrafi_csv.proofs.scan.closing_quote.Given as goal

-- what is known so far
abbrev pub invariant-pairs : goal.invariant-pairs
invariant-pairs l = IsInside l.inside (record { count = l.count; shape = l.shape })

abbrev pub decreases-pairs : goal.decreases-pairs
decreases-pairs l = length l.inside - l.count
