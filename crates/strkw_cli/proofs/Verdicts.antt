-- The lines of errors, or that there are none.
use Rattle.std.proofs.Common.{◌≡◌, ℕ, List, [], ◌∷◌, ◌++◌, ap, ◌∙◌, length, arith, codes}
use Rattle.std.proofs.lemmas.List.{append-nil, length-append}
use Rattle.strkw_report.specs.Kinds.{Report}
use Rattle.strkw_print.specs.Printed.{error_lines}
use Rattle.strkw_cli.specs.Answer.{verdict_lines}

-- where something was written, the lines of the errors are those of the verdict
pub some_errors : (old new : List ℕ) (errors : List Report) → new ≡ old ++ error_lines errors → (length new ≡ length old → ⊥)
    → new ≡ old ++ verdict_lines errors
some_errors old new [] grown longer = absurd (longer (ap (λ l. length l) (grown ∙ append-nil old)))
some_errors old new (r ∷ rs) grown longer = grown

-- where nothing was, there are no errors, and the line that says so is the verdict
pub no_errors : (old mid new : List ℕ) (errors : List Report) → mid ≡ old ++ error_lines errors → length mid ≡ length old → new ≡ mid ++ codes "valid\n"
    → new ≡ old ++ verdict_lines errors
no_errors old mid new [] grown same written = written ∙ ap (λ l. l ++ codes "valid\n") (grown ∙ append-nil old)
no_errors old mid new (r ∷ rs) grown same written =
    let size = ap (λ l. length l) grown ∙ length-append old (error_lines (r ∷ rs)) in
    absurd (omega (arith, size, same))
