use Rattle.neldrafi_csv.proofs.RunLemmas.{found-line_free}
use Rattle.neldrafi_csv.proofs.runs.line_free_run.Goals as goal

pub returns-clause-run : goal.returns-clause-run
returns-clause-run c = found-line_free c.args.bytes.now c.memchr2.result c.unwrap_or.result c.memchr2.ensures c.unwrap_or.ensures
