use Rattle.std.proofs.Common.{◌≡◌, ◌∙◌, ◌&&◌, Bool, true, false, sym, ap}
use Rattle.strkw_regex_core.specs.machine.OneCharLookahead.{are_told}
use Rattle.strkw_regex_core.specs.machine.Mirror.{mirror}
use Rattle.strkw_regex_core.specs.machine.Shape.{outline_pattern, quantifier_of}
use Rattle.strkw_regex_core.proofs.Backwards.{told_cat_back, told_times_back}
use Rattle.strkw_regex_core.proofs.Shapes.{outlined-Then, outlined-Repeated}
use Rattle.strkw_regex_core.proofs.counted_regex.CountedRegex.+is_told_back.Goals as goal

pub returns-then-is_told_back : goal.returns-then-is_told_back
returns-then-is_told_back t c =
    let p = outline_pattern c.in-Then.first.value in
    let q = outline_pattern c.in-Then.second.value in
    let one : are_told (mirror p) ≡ true =
    sym (c.is_told_back.ensures ∙ ap (λ o. are_told (mirror (outline_pattern o))) c.deref.ensures) ∙ c.if-is_told_back.true in
    c.is_told_back-then-is_told_back.ensures ∙ ap (λ o. are_told (mirror (outline_pattern o))) c.deref-then-is_told_back.ensures
    ∙ sym (ap (λ z. are_told (mirror z)) (ap outline_pattern c.in-Then.is ∙ outlined-Then c.in-Then.first c.in-Then.second)
    ∙ told_cat_back p q ∙ ap (λ (x : Bool). x && are_told (mirror q)) one)

pub returns-else-is_told_back : goal.returns-else-is_told_back
returns-else-is_told_back t c =
    let p = outline_pattern c.in-Then.first.value in
    let q = outline_pattern c.in-Then.second.value in
    let none : are_told (mirror p) ≡ false =
    sym (c.is_told_back.ensures ∙ ap (λ o. are_told (mirror (outline_pattern o))) c.deref.ensures) ∙ c.if-is_told_back.false in
    c.if-is_told_back.false
    ∙ sym (ap (λ z. are_told (mirror z)) (ap outline_pattern c.in-Then.is ∙ outlined-Then c.in-Then.first c.in-Then.second)
    ∙ told_cat_back p q ∙ ap (λ (x : Bool). x && are_told (mirror q)) none)

pub returns-else-is_never : goal.returns-else-is_never
returns-else-is_never t c =
    let p = outline_pattern c.in-Repeated.body.value in
    rw (c.in-Repeated.is, outlined-Repeated c.in-Repeated.quantifier c.in-Repeated.body)
    (c.is_told_back-else-is_never.ensures ∙ ap (λ o. are_told (mirror (outline_pattern o))) c.deref-else-is_never.ensures
    ∙ told_times_back (quantifier_of c.in-Repeated.quantifier) p (sym c.is_never.ensures ∙ c.if-is_never.false))
