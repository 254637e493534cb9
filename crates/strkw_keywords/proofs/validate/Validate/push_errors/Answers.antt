use Rattle.strkw_keywords.proofs.Reports.{collected_ok}
use Rattle.strkw_keywords.proofs.validate.Validate.push_errors.Goals as goal

pub returns-clause-appended : goal.returns-clause-appended
returns-clause-appended g c = collected_ok c.push_findings.result _ _ _ _ _ _ _ _ _ c.in_ok-findings.ensures.found
    (rw (c.origin.ensures, c.as_str.ensures) at c.push_findings.ensures.ok)
