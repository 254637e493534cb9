use Rattle.neldrafi_csv.proofs.RunLemmas.{found-free}
use Rattle.neldrafi_csv.proofs.runs.is_line_free.Goals as goal

pub returns : goal.returns
returns c = found-free c.args.bytes.now c.memchr2.result c.is_none.result c.memchr2.ensures c.is_none.ensures
