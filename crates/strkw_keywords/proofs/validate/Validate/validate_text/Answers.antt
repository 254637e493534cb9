use Rattle.std.proofs.lemmas.Result.{err_from_is_err_and}
use Rattle.strkw_keywords.proofs.First.{valid_without_first, fails_by_first, out_of_memory_verdict, found_is_error}
use Rattle.strkw_keywords.proofs.validate.Validate.validate_text.Goals as goal

pub returns-in-None : goal.returns-in-None
returns-in-None g c = valid_without_first _ _ _ _ _ _ c.in_ok-findings.ensures.found c.in-None.ensures

pub returns-in_ok-error-in-Some : goal.returns-in_ok-error-in-Some
returns-in_ok-error-in-Some g c =
    fails_by_first _ _ _ _ _ _ _ _ c.in_ok-findings.ensures.found c.in-Some.ensures (rw (c.origin.ensures, c.as_str.ensures) at c.in_ok-error-in-Some.ensures)

pub returns-in_err-findings : goal.returns-in_err-findings
returns-in_err-findings g c =
    let (e, is, same) = err_from_is_err_and c.from_residual.result c.from_residual.ensures.1 in
    rw is (out_of_memory_verdict _ _ _ _ _ e same (λ calm none. let fine = c.in_err-findings.ensures.answers calm in absurd (cc)))

pub returns-in_err-error-in-Some : goal.returns-in_err-error-in-Some
returns-in_err-error-in-Some g c =
    let (e, is, same) = err_from_is_err_and c.from_residual-in_err-error-in-Some.result c.from_residual-in_err-error-in-Some.ensures.1 in
    rw is (out_of_memory_verdict _ _ _ _ _ e same (λ calm none. found_is_error c.encodes_once.ensures _ _ _ _ _ _ _ c.in_ok-findings.ensures.found
    c.in-Some.ensures none))
