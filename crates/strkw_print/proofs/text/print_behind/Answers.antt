use Rattle.std.proofs.Common.{drop, sym}
use Rattle.std.proofs.lemmas.List.{take-append-drop}
use Rattle.strkw_object.proofs.Results.{on_err}
use Rattle.strkw_print.proofs.text.print_behind.Goals as goal

pub returns-in_err-said-clause-err : goal.returns-in_err-said-clause-err
returns-in_err-said-clause-err c =
    let said = drop c.args.before c.args.out.now.items in
    on_err c.from_residual.result (said, sym (take-append-drop c.args.before c.args.out.now.items))
