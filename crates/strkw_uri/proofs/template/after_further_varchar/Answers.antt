use Rattle.std.proofs.Common.{refl}
use Rattle.strkw_text.proofs.Equivalences.{MatchOption-map}
use Rattle.strkw_uri.specs.Template.{is_varchar}
use Rattle.strkw_uri.proofs.Names.{dot_front, no_dot_front, char_front, no_char_front}
use Rattle.strkw_uri.proofs.template.after_further_varchar.Goals as goal

pub returns-in-Some-clause-cases : goal.returns-in-Some-clause-cases
returns-in-Some-clause-cases c = char_front is_varchar refl refl _ _ c.in-Some.ensures.cases

pub returns-in-Some-strip-clause-cases : goal.returns-in-Some-strip-clause-cases
returns-in-Some-strip-clause-cases c =
    MatchOption-map _ _ _ _ c.after_varchar-in-Some-strip.result
    (no_dot_front is_varchar refl refl _ _ c.in-Some-strip.ensures.cases)
    (λ x h. dot_front is_varchar refl refl _ _ _ c.in-Some-strip.ensures.cases h)
    c.after_varchar-in-Some-strip.ensures.cases

pub returns-in-None-strip-clause-cases : goal.returns-in-None-strip-clause-cases
returns-in-None-strip-clause-cases c = no_char_front is_varchar refl refl _ c.in-None-strip.ensures.cases c.in-None.ensures.cases
