use Rattle.std.proofs.Common.{◌∙◌, sym, ap}
use Rattle.strkw_regex_core.specs.machine.OneCharLookahead.{are_told}
use Rattle.strkw_regex_core.specs.machine.Shape.{outline_pattern, quantifier_of}
use Rattle.strkw_regex_core.proofs.Shapes.{outlined-Repeated, same_told}
use Rattle.strkw_regex_core.proofs.counted_regex.CountedRegex.+is_told.Goals as goal

pub returns-else-is_never : goal.returns-else-is_never
returns-else-is_never t c =
    let p = outline_pattern c.in-Repeated.body.value in
    rw (c.in-Repeated.is, outlined-Repeated c.in-Repeated.quantifier c.in-Repeated.body)
    (c.is_told-else-is_never.ensures ∙ ap (λ o. are_told (outline_pattern o)) c.deref-else-is_never.ensures
    ∙ same_told (quantifier_of c.in-Repeated.quantifier) p (sym c.is_never.ensures ∙ c.if-is_never.false))
