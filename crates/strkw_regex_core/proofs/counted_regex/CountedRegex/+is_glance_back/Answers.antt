use Rattle.std.proofs.Common.{◌≡◌, ◌∙◌, ◌&&◌, Bool, false, sym, ap}
use Rattle.strkw_regex_core.specs.machine.OneCharLookahead.{is_glance}
use Rattle.strkw_regex_core.specs.machine.Mirror.{mirror}
use Rattle.strkw_regex_core.specs.machine.Program.{is_empty}
use Rattle.strkw_regex_core.specs.machine.Shape.{outline_pattern, quantifier_of, is_never}
use Rattle.strkw_regex_core.specs.declared.counted_regex.Quantifier.TheVariants.{Exactly}
use Rattle.strkw_regex_core.proofs.Backwards.{glance_cat_back, glance_times_back}
use Rattle.strkw_regex_core.proofs.MirrorEquivalence.{mirror_nothing}
use Rattle.strkw_regex_core.proofs.Shapes.{outlined-Then, outlined-Repeated, glance_copies, other_glance}
use Rattle.strkw_regex_core.proofs.counted_regex.CountedRegex.+is_glance_back.Goals as goal

pub returns-else-is_nothing : goal.returns-else-is_nothing
returns-else-is_nothing t c =
    let p = outline_pattern c.in-Then.first.value in
    let q = outline_pattern c.in-Then.second.value in
    let some : is_empty p ≡ false =
    sym (c.is_nothing.ensures ∙ ap (λ o. is_empty (outline_pattern o)) c.deref.ensures) ∙ c.if-is_nothing.false in
    c.if-is_nothing.false
    ∙ sym (ap (λ z. is_glance (mirror z)) (ap outline_pattern c.in-Then.is ∙ outlined-Then c.in-Then.first c.in-Then.second)
    ∙ glance_cat_back p q ∙ ap (λ (x : Bool). x && is_glance (mirror q)) some)

pub returns-else-is_never : goal.returns-else-is_never
returns-else-is_never t c =
    let p = outline_pattern c.in-Repeated.body.value in
    rw (c.in-Repeated.is, outlined-Repeated c.in-Repeated.quantifier c.in-Repeated.body, c.in-Exactly.is)
    (c.is_nothing-else-is_never.ensures ∙ ap (λ o. is_empty (outline_pattern o)) c.deref-else-is_never.ensures ∙ sym (mirror_nothing p)
    ∙ glance_copies c.in-Exactly.field-0 (mirror p)
    (ap (λ q. is_never (quantifier_of q)) (sym c.in-Exactly.is) ∙ sym c.is_never.ensures ∙ c.if-is_never.false)
    ∙ glance_times_back (quantifier_of (Exactly c.in-Exactly.field-0)) p)

pub returns-in_default : goal.returns-in_default
returns-in_default t c =
    let p = outline_pattern c.in-Repeated.body.value in
    rw (c.in-Repeated.is, outlined-Repeated c.in-Repeated.quantifier c.in-Repeated.body)
    (c.is_never-in_default.ensures ∙ other_glance c.in-Repeated.quantifier (mirror p) c.in_default.not-ZeroOrOne c.in_default.not-Exactly
    ∙ glance_times_back (quantifier_of c.in-Repeated.quantifier) p)
