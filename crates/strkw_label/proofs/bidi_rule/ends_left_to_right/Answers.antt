use Rattle.std.proofs.Common.{Bool, ◌||◌, refl, sym, subst}
use Rattle.std.specs.Prelude.{◌↔◌, IsTrue}
use Rattle.ucd_bidi.specs.declared.BidiClass.{BidiClass}
use Rattle.strkw_label.specs.BidiRule.{EndsIn, is_european_number, is_left_to_right}
use Rattle.strkw_label.proofs.bidi_rule.ends_left_to_right.Goals as goal

pub returns : goal.returns
returns c =
    let ends : BidiClass → Bool = λ class. is_left_to_right class || is_european_number class in
    subst (λ b. IsTrue b ↔ EndsIn ends c.args.label.now) (sym c.is_left_to_right_end.ensures) (c.end_class.ensures ends refl)
