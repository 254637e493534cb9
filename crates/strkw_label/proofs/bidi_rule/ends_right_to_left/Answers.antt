use Rattle.std.proofs.Common.{Bool, ◌||◌, refl, sym, subst}
use Rattle.std.specs.Prelude.{◌↔◌, IsTrue}
use Rattle.ucd_bidi.specs.declared.BidiClass.{BidiClass}
use Rattle.strkw_label.specs.BidiRule.{EndsIn, is_european_number, is_right_to_left}
use Rattle.strkw_label.proofs.bidi_rule.ends_right_to_left.Goals as goal

pub returns : goal.returns
returns c =
    let ends : BidiClass → Bool = λ class. is_right_to_left class || is_european_number class in
    subst (λ b. IsTrue b ↔ EndsIn ends c.args.label.now) (sym c.is_right_to_left_end.ensures) (c.end_class.ensures ends refl)
