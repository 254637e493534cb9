use Rattle.neldrafi_csv.proofs.RunLemmas.{found-stops, found-unended}
use Rattle.neldrafi_csv.proofs.runs.unended_run.Goals as goal

pub returns-clause-run : goal.returns-clause-run
returns-clause-run c = found-unended c.args.delimiter.byte c.args.bytes.now c.memchr3.result c.unwrap_or.result c.memchr3.ensures c.unwrap_or.ensures

pub returns-clause-stops : goal.returns-clause-stops
returns-clause-stops c inside =
    found-stops c.args.delimiter.byte c.args.bytes.now c.memchr3.result c.unwrap_or.result c.memchr3.ensures c.unwrap_or.ensures inside
