use Rattle.std.proofs.Common.{◌≡◌, ◌∙◌, sym, ap, subst}
use Rattle.std.proofs.lemmas.Result.{IfOk-weaker}
use Rattle.strkw_regex_core.specs.machine.Times.{quantified_pattern}
use Rattle.strkw_regex_core.specs.machine.Program.{glance}
use Rattle.strkw_regex_core.specs.machine.Shape.{outline_pattern, quantifier_of}
use Rattle.strkw_regex_search.specs.machine.Machine.{Writes}
use Rattle.strkw_regex_search.proofs.Written.{nothing_written, both_written}
use Rattle.strkw_regex_core.proofs.Shapes.{outlined-Or, outlined-Repeated, outlined-Ahead, repeated_glance}
use Rattle.strkw_regex_search.proofs.writing.+write_glance.Goals as goal

pub returns-in_ok-write_glance-in-Or-2 : goal.returns-in_ok-write_glance-in-Or-2
returns-in_ok-write_glance-in-Or-2 t c =
    rw (c.in-Or.is, outlined-Or, ← c.deref-in-Or.ensures, ← c.deref-in-Or-2.ensures)
    (IfOk-weaker c.turn-in-Or-3.result _ _
    (λ x h. both_written _ _ _ _ _ c.in_ok-turn-in-Or.ensures
    (both_written _ _ _ _ _ c.in_ok-write_glance-in-Or.ensures
    (both_written _ _ _ _ _ c.in_ok-turn-in-Or-2.ensures (both_written _ _ _ _ _ c.in_ok-write_glance-in-Or-2.ensures h))))
    c.turn-in-Or-3.ensures)

pub returns-in_ok-write_glance-in-ZeroOrOne : goal.returns-in_ok-write_glance-in-ZeroOrOne
returns-in_ok-write_glance-in-ZeroOrOne t c =
    rw (c.in-Repeated.is, outlined-Repeated, c.in-ZeroOrOne.is, ← c.deref-in-ZeroOrOne.ensures)
    (IfOk-weaker c.turn-in-ZeroOrOne-3.result _ _
    (λ x h. both_written _ _ _ _ _ c.in_ok-turn-in-ZeroOrOne.ensures
    (both_written _ _ _ _ _ c.in_ok-turn-in-ZeroOrOne-2.ensures (both_written _ _ _ _ _ c.in_ok-write_glance-in-ZeroOrOne.ensures h)))
    c.turn-in-ZeroOrOne-3.ensures)

pub returns-in_default : goal.returns-in_default
returns-in_default t c =
    let p = outline_pattern c.in-Repeated.body.value in
    let shape : outline_pattern c.args.outline.now ≡ quantified_pattern (quantifier_of c.in-Repeated.quantifier) p =
    ap outline_pattern c.in-Repeated.is ∙ outlined-Repeated c.in-Repeated.quantifier c.in-Repeated.body in
    subst (Writes c.args.code.now c.args.code.now)
    (sym (ap glance shape ∙ repeated_glance c.in-Repeated.quantifier p c.in_default.not-ZeroOrOne)) (nothing_written c.args.code.now)

pub returns-in_ok-write_glance-in-Ahead : goal.returns-in_ok-write_glance-in-Ahead
returns-in_ok-write_glance-in-Ahead t c =
    rw (c.in-Ahead.is, outlined-Ahead, ← c.deref-in-Ahead.ensures)
    (IfOk-weaker c.turn-in-Ahead-2.result _ _
    (λ x h. both_written _ _ _ _ _ c.in_ok-turn-in-Ahead.ensures (both_written _ _ _ _ _ c.in_ok-write_glance-in-Ahead.ensures h))
    c.turn-in-Ahead-2.ensures)
