use Rattle.std.proofs.Common.{◌∙◌, sym, ap, None, if◌then◌else◌}
use Rattle.strkw_ecma.specs.machine.RequiredByte.{needed_char}
use Rattle.strkw_regex_core.specs.machine.Shape.{outline_pattern, quantifier_of}
use Rattle.strkw_ecma.proofs.Needs.{times_need}
use Rattle.strkw_regex_core.proofs.Shapes.{outlined-Repeated}
use Rattle.strkw_ecma.proofs.required_byte.+needed_byte.Goals as goal

pub returns-then-is_sure : goal.returns-then-is_sure
returns-then-is_sure t c =
    let p = outline_pattern c.in-Repeated.body.value in
    rw (c.in-Repeated.is, outlined-Repeated c.in-Repeated.quantifier c.in-Repeated.body)
    (c.needed_byte-then-is_sure.ensures ∙ ap (λ o. needed_char (outline_pattern o)) c.deref-then-is_sure.ensures
    ∙ ap (λ b. if b then needed_char p else None) (sym c.if-is_sure.true ∙ c.is_sure.ensures)
    ∙ times_need (quantifier_of c.in-Repeated.quantifier) p)

pub returns-else-is_sure : goal.returns-else-is_sure
returns-else-is_sure t c =
    let p = outline_pattern c.in-Repeated.body.value in
    rw (c.in-Repeated.is, outlined-Repeated c.in-Repeated.quantifier c.in-Repeated.body)
    (ap (λ b. if b then needed_char p else None) (sym c.if-is_sure.false ∙ c.is_sure.ensures)
    ∙ times_need (quantifier_of c.in-Repeated.quantifier) p)
