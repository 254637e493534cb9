use Rattle.std.proofs.Common.{◌≡◌, ◌∙◌, sym, ap, arith}
use Rattle.strkw_regex_core.specs.machine.MarkedPattern.{alt, lookahead}
use Rattle.strkw_regex_core.specs.machine.Times.{quantified_pattern}
use Rattle.strkw_regex_core.specs.machine.Program.{glance}
use Rattle.strkw_regex_core.specs.machine.Shape.{outline_pattern, quantifier_of}
use Rattle.strkw_regex_core.specs.machine.ProgramSteps.{steps_of}
use Rattle.strkw_regex_core.specs.machine.Sizes.{cap_steps}
use Rattle.strkw_regex_core.proofs.Shapes.{outlined-Or, outlined-Repeated, outlined-Ahead, repeated_glance}
use Rattle.strkw_regex_core.proofs.Sizes.{sum_capped, more_capped, ahead_steps, glance_alt_steps, glance_option_steps}
use Rattle.strkw_regex_core.proofs.counted_regex.CountedRegex.+glance_steps.Goals as goal

pub returns-in-Or : goal.returns-in-Or
returns-in-Or t c =
    let p = outline_pattern c.deref-in-Or.result.now in
    let q = outline_pattern c.deref-in-Or-2.result.now in
    let shape : outline_pattern c.args.self.now ≡ alt p q =
    cc (c.in-Or.is, c.deref-in-Or.ensures, c.deref-in-Or-2.ensures, outlined-Or c.in-Or.one c.in-Or.other) in
    rw shape
    (c.sum_of.ensures
    ∙ sum_capped (steps_of (glance p)) (steps_of (glance q)) 3 _ _ c.glance_steps-in-Or.ensures c.glance_steps-in-Or-2.ensures
    ∙ ap cap_steps (sym (glance_alt_steps p q)))

pub returns-in-ZeroOrOne : goal.returns-in-ZeroOrOne
returns-in-ZeroOrOne t c =
    let p = outline_pattern c.deref-in-ZeroOrOne.result.now in
    let shape : outline_pattern c.args.self.now ≡ quantified_pattern (quantifier_of c.in-Repeated.quantifier) p =
    cc (c.in-Repeated.is, c.deref-in-ZeroOrOne.ensures, outlined-Repeated c.in-Repeated.quantifier c.in-Repeated.body) in
    rw (shape, c.in-ZeroOrOne.is)
    (c.sum_of-in-ZeroOrOne.ensures
    ∙ more_capped (steps_of (glance p)) 3 _ c.glance_steps-in-ZeroOrOne.ensures ∙ ap cap_steps (sym (glance_option_steps p)))

pub returns-in_default : goal.returns-in_default
returns-in_default t c =
    let p = outline_pattern c.in-Repeated.body.value in
    let shape : outline_pattern c.args.self.now ≡ quantified_pattern (quantifier_of c.in-Repeated.quantifier) p =
    ap outline_pattern c.in-Repeated.is ∙ outlined-Repeated c.in-Repeated.quantifier c.in-Repeated.body in
    let nothing : 0 ≡ cap_steps 0 = omega arith in
    nothing ∙ ap (λ is. cap_steps (steps_of is)) (sym (ap glance shape ∙ repeated_glance c.in-Repeated.quantifier p c.in_default.not-ZeroOrOne))

pub returns-in-Ahead : goal.returns-in-Ahead
returns-in-Ahead t c =
    let p = outline_pattern c.deref-in-Ahead.result.now in
    let shape : outline_pattern c.args.self.now ≡ lookahead c.in-Ahead.field-0 p =
    cc (c.in-Ahead.is, c.deref-in-Ahead.ensures, outlined-Ahead c.in-Ahead.field-0 c.in-Ahead.body) in
    rw shape
    (c.sum_of-in-Ahead.ensures ∙ more_capped (steps_of (glance p)) 2 _ c.glance_steps-in-Ahead.ensures
    ∙ ap cap_steps (sym (ahead_steps c.in-Ahead.field-0 p)))
