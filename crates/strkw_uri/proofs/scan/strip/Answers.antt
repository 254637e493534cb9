use Rattle.std.proofs.Common.{◌≡◌, ◌<◌, ◌∙◌, ◌∷◌, Some, sym, ap, subst}
use Rattle.std.specs.List.{slice_get}
use Rattle.std.specs.Str.{chars}
use Rattle.std.proofs.lemmas.Str.{IsCharBoundary-after_ascii}
use Rattle.strkw_uri.proofs.AsciiRuns.{first_got, first_gone, first_is, not_first_at}
use Rattle.strkw_uri.proofs.scan.strip.Goals as goal
use Rattle.strkw_uri.proofs.scan.strip.Goals.{in_default-via-in-Some+else-first-wanted, in_default-via-in_default}

pub range_from-requires : goal.range_from-requires
range_from-requires c =
    let text = c.args.text.now in
    let at : slice_get text 0 ≡ Some c.args.wanted = sym (c.in-Some.ensures.value ∙ ap (λ s. slice_get s 0) c.as_bytes.ensures.value)
    ∙ ap Some c.if-first-wanted.true in
    let f = first_got text c.args.wanted at in
    λ h. IsCharBoundary-after_ascii text 0 c.utf8.text f.inside (subst (λ b. b < 128) (sym f.is) c.requires)

pub returns-in-Some-clause-cases : goal.returns-in-Some-clause-cases
returns-in-Some-clause-cases c =
    let text = c.args.text.now in
    let at : slice_get text 0 ≡ Some c.args.wanted = sym (c.in-Some.ensures.value ∙ ap (λ s. slice_get s 0) c.as_bytes.ensures.value)
    ∙ ap Some c.if-first-wanted.true in
    first_is text c.args.wanted c.utf8.text c.requires at ∙ ap (λ s. c.args.wanted ∷ chars s) (sym c.range_from.ensures.value)

pub returns-in_default-clause-cases : goal.returns-in_default-clause-cases
returns-in_default-clause-cases c =
    let text = c.args.text.now in
    let same = ap (λ s. slice_get s 0) c.as_bytes.ensures.value in
    not_first_at text c.args.wanted c.utf8.text c.requires (λ inside is. elim c.in_default.branch [
      | in_default-via-in-Some+else-first-wanted w ↦ w.if-first-wanted.false
          (sym (first_got text w.in-Some.first.now (sym (w.in-Some.ensures.value ∙ same))).is ∙ is)
      | in_default-via-in_default w ↦ first_gone text (w.in_default.ensures.value ∙ same) inside
    ])
