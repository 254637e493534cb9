use Rattle.std.proofs.lemmas.Result.{err_from_is_err_and}
use Rattle.neldrafi_csv.proofs.input.Input.skip_mark.Goals as goal

pub returns-in_err-is_last-clause-fails : goal.returns-in_err-is_last-clause-fails
returns-in_err-is_last-clause-fails g c text =
    let (y, is, same) = err_from_is_err_and c.from_residual.result c.from_residual.ensures.1 in
    rw (is, same) (c.in_err-is_last.ensures.fails c.args.self.now.place text)
