use Rattle.strkw_text.proofs.Equivalences.{MatchOption-map}
use Rattle.strkw_uri.proofs.Expressions.{literal_front, brace_front, no_brace_front, no_front}
use Rattle.strkw_uri.proofs.template.after_literal_or_expression.Goals as goal

pub returns-in-Some-clause-cases : goal.returns-in-Some-clause-cases
returns-in-Some-clause-cases c =
    MatchOption-map _ _ _ _ c.after_in_expression.result
    (no_brace_front _ _ c.in-Some.ensures.cases)
    (λ x h. brace_front _ _ _ c.in-Some.ensures.cases h)
    c.after_in_expression.ensures.cases

pub returns-clause-cases : goal.returns-clause-cases
returns-clause-cases c =
    MatchOption-map _ _ _ _ c.after_literal.result
    (λ n. no_front _ n c.in_default.ensures.cases)
    (λ x h. literal_front _ _ h)
    c.after_literal.ensures.cases
