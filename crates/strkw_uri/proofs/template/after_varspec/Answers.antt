use Rattle.strkw_text.proofs.Equivalences.{MatchOption-map, iff_trans}
use Rattle.strkw_uri.proofs.Variables.{variable_leaves, no_variable}
use Rattle.strkw_uri.proofs.template.after_varspec.Goals as goal

pub returns-in-Some-clause-cases : goal.returns-in-Some-clause-cases
returns-in-Some-clause-cases c =
    MatchOption-map _ _ _ _ c.after_optional_modifier.result
    (λ none tail h. none tail ((variable_leaves tail _ _ _ c.in-Some.ensures.cases c.skip_name.ensures.run).0 h))
    (λ x leaves tail. iff_trans (variable_leaves tail _ _ _ c.in-Some.ensures.cases c.skip_name.ensures.run) (leaves tail))
    c.after_optional_modifier.ensures.cases

pub returns-in-None-clause-cases : goal.returns-in-None-clause-cases
returns-in-None-clause-cases c = λ tail. no_variable tail _ c.in-None.ensures.cases
