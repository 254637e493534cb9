use Rattle.neldrafi_csv.proofs.RunLemmas.{text-below}
use Rattle.neldrafi_csv.proofs.runs.text_run.Goals as goal

pub returns-clause-run : goal.returns-clause-run
returns-clause-run c = text-below c.args.delimiter.byte c.args.bytes.now c.run_before.result c.run_before.ensures.within c.run_before.ensures.before
