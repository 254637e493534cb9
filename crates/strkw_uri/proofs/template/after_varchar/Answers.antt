use Rattle.std.proofs.Common.{◌∷◌, [], refl}
use Rattle.strkw_text.specs.Abnf.{◌⨾◌, Literal, OneOf}
use Rattle.strkw_text.specs.Characters.{HexDigit}
use Rattle.strkw_text.proofs.Equivalences.{MatchOption-map}
use Rattle.strkw_text.proofs.Runs.{no_literal_start, no_start_either, no_start_first, start_left}
use Rattle.strkw_uri.specs.Template.{is_varchar}
use Rattle.strkw_uri.specs.Uri.{PctEncoded}
use Rattle.strkw_uri.proofs.Encodings.{encoded_pct, broken_stops}
use Rattle.strkw_uri.proofs.template.after_varchar.Goals as goal

pub returns-in-Some-clause-cases : goal.returns-in-Some-clause-cases
returns-in-Some-clause-cases c = start_left (OneOf is_varchar) PctEncoded _ _ c.in-Some.ensures.cases

pub returns-in-Some-strip-clause-cases : goal.returns-in-Some-strip-clause-cases
returns-in-Some-strip-clause-cases c =
    let at = c.in-Some-strip.ensures.cases in
    MatchOption-map _ _ _ _ c.after_two_hexdigits.result
    (broken_stops is_varchar refl _ _ at)
    (λ x h. encoded_pct is_varchar _ _ _ at h)
    c.after_two_hexdigits.ensures.cases

pub returns-in-None-strip-clause-cases : goal.returns-in-None-strip-clause-cases
returns-in-None-strip-clause-cases c =
    no_start_either (OneOf is_varchar) PctEncoded _ c.in-None.ensures.cases
    (no_start_first (Literal (37 ∷ [])) (HexDigit ⨾ HexDigit) _ (no_literal_start 37 _ c.in-None-strip.ensures.cases))
