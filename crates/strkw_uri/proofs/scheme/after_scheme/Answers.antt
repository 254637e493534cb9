use Rattle.strkw_text.proofs.Equivalences.{MatchOption-map}
use Rattle.strkw_uri.proofs.Schemes.{scheme_found, no_scheme, no_letter}
use Rattle.strkw_uri.proofs.scheme.after_scheme.Goals as goal

pub returns-in-Some : goal.returns-in-Some
returns-in-Some c =
    MatchOption-map _ _ _ _ c.strip.result
    (no_scheme _ _ _ c.in-Some.ensures.cases c.skip_class.ensures)
    (λ rest at. scheme_found _ _ _ _ c.in-Some.ensures.cases c.skip_class.ensures at)
    c.strip.ensures.cases

pub returns-in-None : goal.returns-in-None
returns-in-None c = no_letter _ c.in-None.ensures.cases
