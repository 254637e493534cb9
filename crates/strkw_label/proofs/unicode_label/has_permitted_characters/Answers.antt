use Rattle.std.proofs.Common.{◌≡◌, get_or, take_all, All, arith, refl, sym, ap, subst, ◌∙◌}
use Rattle.std.specs.Prelude.{IsTrue}
use Rattle.std.proofs.lemmas.List.{get_or_read}
use Rattle.std.proofs.lemmas.List.Elements.{All-more}
use Rattle.strkw_label.specs.DerivedProperty.{derived_property, is_permitted}
use Rattle.strkw_label.proofs.unicode_label.has_permitted_characters.Goals as goal

pub loop-c-preserved : goal.loop-c-preserved
loop-c-preserved c =
    let label = c.args.label.now in
    let at = c.loop-c.c-index in
    let read : c.c-item.result ≡ get_or label at 0 = get_or_read label at _ c.loop-c-test.true c.c-item.is 0 in
    All-more (λ x. IsTrue (is_permitted (derived_property x))) label at 0 c.loop-c-test.true c.loop-c.invariant
    (ap (λ x. is_permitted (derived_property x)) (sym read) ∙ ap is_permitted (sym c.in_ok-derived_property.ensures)
    ∙ sym c.is_permitted.ensures ∙ c.if-not-is_permitted.false)

pub returns : goal.returns
returns c = (
  λ t. subst (All (λ x. IsTrue (is_permitted (derived_property x))))
      (take_all c.loop-c.c-index c.args.label.now (omega (arith, c.loop-c-test.false))) c.loop-c.invariant,
  λ all. refl,
)
