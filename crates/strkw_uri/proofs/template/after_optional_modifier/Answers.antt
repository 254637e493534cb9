use Rattle.strkw_text.proofs.Equivalences.{MatchOption-map, iff_trans}
use Rattle.strkw_uri.proofs.Variables.{modifier_colon, modifier_star, modifier_none}
use Rattle.strkw_uri.proofs.template.after_optional_modifier.Goals as goal

pub returns-in-Some-clause-cases : goal.returns-in-Some-clause-cases
returns-in-Some-clause-cases c =
    MatchOption-map _ _ _ _ c.after_max_length.result
    (λ none tail h. none tail ((modifier_colon tail _ _ c.in-Some.ensures.cases).0 h))
    (λ x leaves tail. iff_trans (modifier_colon tail _ _ c.in-Some.ensures.cases) (leaves tail))
    c.after_max_length.ensures.cases

pub returns-in-Some-strip-clause-cases : goal.returns-in-Some-strip-clause-cases
returns-in-Some-strip-clause-cases c = λ tail. modifier_star tail _ _ c.in-None.ensures.cases c.in-Some-strip.ensures.cases

pub returns-in-None-strip-clause-cases : goal.returns-in-None-strip-clause-cases
returns-in-None-strip-clause-cases c = λ tail. modifier_none tail _ c.in-None.ensures.cases c.in-None-strip.ensures.cases
