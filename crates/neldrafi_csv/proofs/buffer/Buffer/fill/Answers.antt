use Rattle.std.proofs.lemmas.Result.{err_from_is_err_and}
use Rattle.neldrafi_csv.proofs.buffer.Buffer.fill.Goals as goal

pub returns-in_err-count-clause-fails : goal.returns-in_err-count-clause-fails
returns-in_err-count-clause-fails g c place text =
    let (y, is, same) = err_from_is_err_and c.from_residual.result c.from_residual.ensures.1 in rw (is, same) (c.in_err-count.ensures.fails place text)
