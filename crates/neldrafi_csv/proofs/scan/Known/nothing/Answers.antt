use Rattle.std.proofs.Common.{drop}
use Rattle.neldrafi_csv.proofs.ScanLemmas.{nothing-inside}
use Rattle.neldrafi_csv.proofs.scan.Known.nothing.Goals as goal

pub returns : goal.returns
returns c bytes = nothing-inside (drop 1 bytes)
