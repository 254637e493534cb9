use Rattle.strkw_uri.proofs.Variables.{length_leaves, no_length}
use Rattle.strkw_uri.proofs.template.after_max_length.Goals as goal

pub returns-in-Some-clause-cases : goal.returns-in-Some-clause-cases
returns-in-Some-clause-cases c = λ tail.
    length_leaves tail _ _ _ _ _ c.in-Some.ensures.cases c.after_optional-rest.ensures.option c.after_optional-rest-in-Some.ensures.option
    c.after_optional.ensures.option

pub returns-in-None-clause-cases : goal.returns-in-None-clause-cases
returns-in-None-clause-cases c = λ tail. no_length tail _ c.in-None.ensures.cases
