use Rattle.std.proofs.Common.{◌≡◌, ◌∷◌, ap, sym, ◌∙◌, refl}
use Rattle.std.specs.Str.{chars}
use Rattle.strkw_text.proofs.Equivalences.{MatchOption-map}
use Rattle.strkw_uri.specs.Template.{is_literal_char}
use Rattle.strkw_uri.proofs.Encodings.{encoded_char, encoded_pct, broken_stops}
use Rattle.strkw_uri.proofs.template.after_literal.Goals as goal

pub returns-then-is_literal_char-clause-cases : goal.returns-then-is_literal_char-clause-cases
returns-then-is_literal_char-clause-cases c = encoded_char is_literal_char c.in-Some.c _ _ c.in-Some.ensures.cases (sym c.if-is_literal_char.ensures)

pub returns-then-c-eq37-clause-cases : goal.returns-then-c-eq37-clause-cases
returns-then-c-eq37-clause-cases c =
    let at : chars c.args.text.now ≡ 37 ∷ chars c.in-Some.rest.now = c.in-Some.ensures.cases ∙ ap (λ d. d ∷ chars c.in-Some.rest.now) c.if-c-eq37.true in
    MatchOption-map _ _ _ _ c.after_two_hexdigits.result
    (broken_stops is_literal_char refl _ _ at)
    (λ x h. encoded_pct is_literal_char _ _ _ at h)
    c.after_two_hexdigits.ensures.cases
