use Rattle.std.proofs.Common.{◌≡◌, ◌<◌, ◌∙◌, Some, sym, ap, subst}
use Rattle.std.specs.List.{slice_get}
use Rattle.std.specs.Str.{chars}
use Rattle.std.proofs.lemmas.Str.{IsCharBoundary-after_ascii}
use Rattle.strkw_text.specs.Abnf.{OneOf}
use Rattle.strkw_text.specs.Fronts.{StartsWith}
use Rattle.strkw_text.proofs.Laws.{starts_one}
use Rattle.strkw_uri.specs.Scan.{is_class_char}
use Rattle.strkw_uri.proofs.AsciiRuns.{first_got, first_gone, first_is, class_small, first_stops}
use Rattle.strkw_uri.proofs.scan.after_one.Goals as goal
use Rattle.strkw_uri.proofs.scan.after_one.Goals.{in_default-via-in-Some+else-contains, in_default-via-in_default}

pub range_from-requires : goal.range_from-requires
range_from-requires c =
    let text = c.args.text.now in
    let b = c.in-Some.first.now in
    let at : slice_get text 0 ≡ Some b = sym (c.in-Some.ensures.value ∙ ap (λ s. slice_get s 0) c.as_bytes.ensures.value) in
    let f = first_got text b at in
    λ h. IsCharBoundary-after_ascii text 0 c.utf8.text f.inside (subst (λ b. b < 128) (sym f.is) (class_small c.args.class b (sym c.if-contains.ensures)))

pub returns-in-Some-clause-cases : goal.returns-in-Some-clause-cases
returns-in-Some-clause-cases c =
    let text = c.args.text.now in
    let b = c.in-Some.first.now in
    let at : slice_get text 0 ≡ Some b = sym (c.in-Some.ensures.value ∙ ap (λ s. slice_get s 0) c.as_bytes.ensures.value) in
    let member = sym c.if-contains.ensures in
    subst (λ s. StartsWith (OneOf (is_class_char c.args.class)) (chars text) (chars s)) (sym c.range_from.ensures.value)
    (starts_one (is_class_char c.args.class) b _ _ member (first_is text b c.utf8.text (class_small c.args.class b member) at))

pub returns-in_default-clause-cases : goal.returns-in_default-clause-cases
returns-in_default-clause-cases c =
    let text = c.args.text.now in
    let class = is_class_char c.args.class in
    let same = ap (λ s. slice_get s 0) c.as_bytes.ensures.value in
    first_stops class (class_small c.args.class) text c.utf8.text (λ inside. elim c.in_default.branch [
      | in_default-via-in-Some+else-contains w ↦ ap class (first_got text w.in-Some.first.now (sym (w.in-Some.ensures.value ∙ same))).is
          ∙ sym w.if-contains.ensures
      | in_default-via-in_default w ↦ absurd (first_gone text (w.in_default.ensures.value ∙ same) inside)
    ])
