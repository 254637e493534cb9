use Rattle.std.proofs.Common.{take}
use Rattle.std.proofs.lemmas.List.{length-take-le}
use Rattle.neldrafi_csv.proofs.RunLemmas.{run_of_lanes}
use Rattle.neldrafi_csv.proofs.runs.run_of_block.Goals as goal

pub returns : goal.returns
returns c = run_of_lanes c.args.delimiter.byte (take 16 c.args.bytes.now) _ (length-take-le 16 c.args.bytes.now c.requires) c.first_set.ensures
