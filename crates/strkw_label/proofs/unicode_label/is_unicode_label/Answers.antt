use Rattle.std.proofs.Common.{All, sym, ◌∙◌}
use Rattle.std.specs.Prelude.{◌↔◌, IsTrue}
use Rattle.std.proofs.lemmas.Bool.{false≢true}
use Rattle.std.proofs.lemmas.Result.{IfOk-weaker}
use Rattle.strkw_label.specs.DerivedProperty.{derived_property, is_permitted}
use Rattle.strkw_label.specs.IdnHostName.{IsUnicodeLabel}
use Rattle.strkw_label.proofs.unicode_label.is_unicode_label.Goals as goal

pub returns : goal.returns
returns c =
    let label = c.args.label.now in
    let inside = c.has_hyphens_inside.ensures.0 c.if-not-has_hyphens_inside.false in
    IfOk-weaker c.has_permitted_characters.result (λ b. IsTrue b ↔ All (λ x. IsTrue (is_permitted (derived_property x))) label)
    (λ b. IsTrue b ↔ IsUnicodeLabel label)
    (λ b told. (
      λ t. record {
        beyond_ascii = sym c.is_all_ascii.ensures ∙ c.if-is_all_ascii.false;
        normal = c.in_ok-is_composed.ensures.0 c.if-not-branch.false;
        permitted = told.0 t;
        first = inside.0;
        last = inside.1;
        reserved = λ r. false≢true (sym c.if-has_reserved_hyphens.false ∙ c.has_reserved_hyphens.ensures.1 r);
        no_leading_mark = sym c.begins_with_mark.ensures ∙ c.if-begins_with_mark.false;
        context = c.fits_context.ensures.0 c.if-not-fits_context.false;
      },
      λ u. told.1 u.permitted,
    ))
    c.has_permitted_characters.ensures
