use Rattle.std.proofs.Common.{rules, ◌∙◌, nat_lt, ap, sym}
use Rattle.neldrafi_infer.proofs.PropertyLemmas.{has_other}
use Rattle.neldrafi_infer.proofs.property.Property.has_some.Goals as goal

pub returns-in_default : goal.returns-in_default
returns-in_default c ss of =
    ap (nat_lt 0) (c.type_count.ensures ss of) ∙ sym (has_other ss c.args.of_type c.in_default.not-Integer c.in_default.not-Number)
