use Rattle.std.proofs.Common.{◌∙◌, sym, ap}
use Rattle.strkw_regex_core.specs.machine.Program.{is_empty}
use Rattle.strkw_regex_core.specs.machine.Shape.{outline_pattern, quantifier_of, is_never}
use Rattle.strkw_regex_core.proofs.Shapes.{outlined-Repeated, glance_copies, other_glance}
use Rattle.strkw_regex_core.proofs.counted_regex.CountedRegex.+is_glance.Goals as goal

pub returns-else-is_never : goal.returns-else-is_never
returns-else-is_never t c =
    let p = outline_pattern c.in-Repeated.body.value in
    rw (c.in-Repeated.is, outlined-Repeated c.in-Repeated.quantifier c.in-Repeated.body, c.in-Exactly.is)
    (c.is_nothing-else-is_never.ensures ∙ ap (λ o. is_empty (outline_pattern o)) c.deref-else-is_never.ensures
    ∙ glance_copies c.in-Exactly.field-0 p (ap (λ q. is_never (quantifier_of q)) (sym c.in-Exactly.is) ∙ sym c.is_never.ensures ∙ c.if-is_never.false))

pub returns-in_default : goal.returns-in_default
returns-in_default t c =
    let p = outline_pattern c.in-Repeated.body.value in
    rw (c.in-Repeated.is, outlined-Repeated c.in-Repeated.quantifier c.in-Repeated.body)
    (c.is_never-in_default.ensures ∙ other_glance c.in-Repeated.quantifier p c.in_default.not-ZeroOrOne c.in_default.not-Exactly)
