use Rattle.std.proofs.Common.{◌≡◌, ◌∙◌, ◌&&◌, Bool, List, false, sym, ap, if◌then◌else◌}
use Rattle.strkw_regex_core.specs.machine.MarkedPattern.{MarkedPattern, cat, alt, lookbehind, lookahead}
use Rattle.strkw_regex_core.specs.machine.Times.{quantified_pattern}
use Rattle.strkw_regex_core.specs.machine.Program.{Instruction, glance, alternatives, is_class, is_empty}
use Rattle.strkw_regex_core.specs.machine.Shape.{outline_pattern, quantifier_of}
use Rattle.strkw_regex_core.specs.machine.ProgramSteps.{steps, steps_of, spread}
use Rattle.strkw_regex_core.specs.machine.Sizes.{cap_steps, spread_if}
use Rattle.strkw_regex_core.proofs.Shapes.{outlined-Then, outlined-Or, outlined-Repeated, outlined-Behind, outlined-Ahead, same_beside}
use Rattle.strkw_regex_core.proofs.Sizes.{sum_capped, more_capped, both_steps, alt_steps, beside_steps, ahead_steps}
use Rattle.strkw_regex_core.proofs.Widths.{cat_if, alt_if, same_nothing_if, times_if, behind_if, ahead_if, mark_capped, sized, sized_beside}
use Rattle.strkw_regex_core.proofs.counted_regex.CountedRegex.+steps.Goals as goal

pub steps-returns-in-Then : goal.steps-returns-in-Then
steps-returns-in-Then t c =
    let b = c.args.is_spread in
    let p = outline_pattern c.deref-in-Then.result.now in
    let q = outline_pattern c.deref-in-Then-2.result.now in
    let shape : outline_pattern c.args.self.now ≡ cat p q =
    cc (c.in-Then.is, c.deref-in-Then.ensures, c.deref-in-Then-2.ensures, outlined-Then c.in-Then.first c.in-Then.second) in
    c.sum_of.ensures ∙ both_steps (spread_if b p) (spread_if b q) _ _ c.steps.ensures c.steps-in-Then.ensures
    ∙ sized b (cat p q) _ _ shape (cat_if b p q)

pub steps-returns-else-is_nothing : goal.steps-returns-else-is_nothing
steps-returns-else-is_nothing t c =
    let b = c.args.is_spread in
    let p = outline_pattern c.deref-else-is_nothing.result.now in
    let q = outline_pattern c.deref-in-Or.result.now in
    let shape : outline_pattern c.args.self.now ≡ alt p q =
    cc (c.in-Or.is, c.deref-else-is_nothing.ensures, c.deref-in-Or.ensures, outlined-Or c.in-Or.one c.in-Or.other) in
    let some : is_empty p ≡ false =
    cc (c.if-is_nothing.false, c.is_nothing.ensures, c.deref-in-Or-2.ensures, c.deref-else-is_nothing.ensures) in
    c.sum_of-else-is_nothing.ensures
    ∙ sum_capped (steps_of (alternatives (spread_if b p))) (steps (spread_if b q)) 3 _ _ c.steps_beside.ensures c.steps-steps.ensures
    ∙ ap cap_steps (sym (alt_steps (spread_if b p) (spread_if b q)
    (ap (λ (x : Bool). x && is_class (spread_if b q)) (same_nothing_if b p ∙ some))))
    ∙ sized b (alt p q) _ _ shape (alt_if b p q)

pub steps-returns-in-Repeated : goal.steps-returns-in-Repeated
steps-returns-in-Repeated t c =
    let b = c.args.is_spread in
    let p = outline_pattern c.in-Repeated.body.value in
    let times = quantifier_of c.in-Repeated.quantifier in
    c.repeated_steps.ensures
    ∙ ap (λ o. cap_steps (steps (quantified_pattern times (spread_if b (outline_pattern o))))) c.deref-in-Repeated.ensures
    ∙ sized b (quantified_pattern times p) _ _ (ap outline_pattern c.in-Repeated.is ∙ outlined-Repeated c.in-Repeated.quantifier c.in-Repeated.body)
    (times_if b times p)

pub steps-returns-in-Behind : goal.steps-returns-in-Behind
steps-returns-in-Behind t c =
    let b = c.args.is_spread in
    let p = outline_pattern c.deref-in-Behind.result.now in
    let shape : outline_pattern c.args.self.now ≡ lookbehind c.in-Behind.field-0 p =
    cc (c.in-Behind.is, c.deref-in-Behind.ensures, outlined-Behind c.in-Behind.field-0 c.in-Behind.body) in
    c.sum_of-in-Behind.ensures
    ∙ sum_capped (if b then 1 else 0) (steps (spread_if b p)) 2 _ _ (c.mark_steps.ensures ∙ mark_capped b) c.steps-in-Behind.ensures
    ∙ ap cap_steps (sym (behind_if b c.in-Behind.field-0 p)) ∙ ap (λ (y : MarkedPattern). cap_steps (steps (spread_if b y))) (sym shape)

pub steps-returns-then-is_spread : goal.steps-returns-then-is_spread
steps-returns-then-is_spread t c =
    let p = outline_pattern c.deref-then-is_spread.result.now in
    let shape : outline_pattern c.args.self.now ≡ lookahead c.in-Ahead.field-0 p =
    cc (c.in-Ahead.is, c.deref-then-is_spread.ensures, outlined-Ahead c.in-Ahead.field-0 c.in-Ahead.body) in
    c.sum_of-then-is_spread.ensures
    ∙ sum_capped 1 (steps (spread p)) 2 _ _ c.mark_steps-then-is_spread.ensures c.steps-then-is_spread.ensures
    ∙ ap cap_steps (sym (ahead_if c.in-Ahead.field-0 p)) ∙ ap (λ (y : MarkedPattern). cap_steps (steps (spread y))) (sym shape)
    ∙ ap (λ (x : Bool). cap_steps (steps (spread_if x (outline_pattern c.args.self.now)))) (sym c.if-is_spread.true)

pub steps-returns-else-is_spread : goal.steps-returns-else-is_spread
steps-returns-else-is_spread t c =
    let p = outline_pattern c.deref-else-is_spread.result.now in
    let shape : outline_pattern c.args.self.now ≡ lookahead c.in-Ahead.field-0 p =
    cc (c.in-Ahead.is, c.deref-else-is_spread.ensures, outlined-Ahead c.in-Ahead.field-0 c.in-Ahead.body) in
    c.sum_of-else-is_spread.ensures ∙ more_capped (steps_of (glance p)) 2 _ c.glance_steps.ensures
    ∙ ap cap_steps (sym (ahead_steps c.in-Ahead.field-0 p)) ∙ ap (λ (y : MarkedPattern). cap_steps (steps y)) (sym shape)
    ∙ ap (λ (x : Bool). cap_steps (steps (spread_if x (outline_pattern c.args.self.now)))) (sym c.if-is_spread.false)

pub steps_beside-returns-in-Or : goal.steps_beside-returns-in-Or
steps_beside-returns-in-Or t c =
    let b = c.args.is_spread in
    let p = outline_pattern c.deref.result.now in
    let q = outline_pattern c.deref-in-Or.result.now in
    let shape : outline_pattern c.args.self.now ≡ alt p q =
    cc (c.in-Or.is, c.deref.ensures, c.deref-in-Or.ensures, outlined-Or c.in-Or.one c.in-Or.other) in
    c.sum_of.ensures
    ∙ sum_capped (steps_of (alternatives (spread_if b p))) (steps (spread_if b q)) 1 _ _ c.steps_beside.ensures c.steps.ensures
    ∙ ap cap_steps (sym (beside_steps (spread_if b p) (spread_if b q))) ∙ sized_beside b (alt p q) _ _ shape (alt_if b p q)

pub steps_beside-returns-in_default : goal.steps_beside-returns-in_default
steps_beside-returns-in_default t c =
    let b = c.args.is_spread in
    let p = outline_pattern c.in-Repeated.body.value in
    let times = quantifier_of c.in-Repeated.quantifier in
    let shape : outline_pattern c.args.self.now ≡ quantified_pattern times p =
    ap outline_pattern c.in-Repeated.is ∙ outlined-Repeated c.in-Repeated.quantifier c.in-Repeated.body in
    c.steps-in_default.ensures ∙ sym (sized b (quantified_pattern times p) _ _ shape (times_if b times p))
    ∙ ap (λ (is : List Instruction). cap_steps (steps_of is)) (sym (same_beside c.in-Repeated.quantifier (spread_if b p) c.in_default.not-ZeroOrOne))
    ∙ sized_beside b (quantified_pattern times p) _ _ shape (times_if b times p)
