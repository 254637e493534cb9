use Rattle.strkw_text.proofs.Equivalences.{MatchOption-map}
use Rattle.strkw_uri.proofs.Expressions.{inside_found, no_inside}
use Rattle.strkw_uri.proofs.template.after_in_expression.Goals as goal

pub returns-clause-cases : goal.returns-clause-cases
returns-clause-cases c =
    MatchOption-map _ _ _ _ c.after_variables.result
    (λ none. no_inside _ _ c.after_optional.ensures.option none)
    (λ x found. inside_found _ _ _ c.after_optional.ensures.option found)
    c.after_variables.ensures.cases
