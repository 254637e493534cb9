use Rattle.std.proofs.Common.{◌++◌, drop, take-append-drop, sym, ap, ◌∙◌}
use Rattle.strkw_cli.proofs.running.text_of_lines.Goals as goal

pub returns-in-Ok : goal.returns-in-Ok
returns-in-Ok c =
    let rest = drop c.in-Some.end c.args.piece.now in
    (rest, sym (take-append-drop c.in-Some.end c.args.piece.now) ∙ ap (λ l. l ++ rest) (sym c.in-Ok.ensures.0))
