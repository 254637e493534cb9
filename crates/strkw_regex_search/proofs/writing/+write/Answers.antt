use Rattle.std.proofs.Common.{◌≡◌, sym, ap, ◌∙◌, arith}
use Rattle.std.proofs.lemmas.Result.{IfOk-weaker}
use Rattle.strkw_regex_core.specs.machine.Program.{is_empty, program, alternatives}
use Rattle.strkw_regex_core.specs.machine.Shape.{outline_pattern}
use Rattle.strkw_regex_search.proofs.Written.{both_written}
use Rattle.strkw_regex_core.proofs.Shapes.{shapes, outlined-Then, outlined-Or, outlined-Behind, outlined-Ahead}
use Rattle.strkw_regex_search.proofs.Copies.{repeated_beside, alone_beside, repeats_program, program_choice}
use Rattle.strkw_regex_search.proofs.writing.+write.Goals as goal

pub write-returns-in_ok-write-in-Then : goal.write-returns-in_ok-write-in-Then
write-returns-in_ok-write-in-Then t c =
    rw (c.in-Then.is, outlined-Then, ← c.deref-in-Then.ensures, ← c.deref-in-Then-2.ensures)
    (IfOk-weaker c.write-in-Then.result _ _ (λ x. both_written _ _ _ _ _ c.in_ok-write-in-Then.ensures)
    c.write-in-Then.ensures)

pub write-returns-in_ok-write-in-Or : goal.write-returns-in_ok-write-in-Or
write-returns-in_ok-write-in-Or t c =
    let something = ap (λ o. is_empty (outline_pattern o)) (sym c.deref-in-Or.ensures) ∙ sym c.is_nothing.ensures
    ∙ c.if-is_nothing.false in
    rw (c.in-Or.is, outlined-Or, program_choice _ _ something)
    (rw (← c.deref-else-is_nothing.ensures, ← c.deref-else-is_nothing-2.ensures)
    (IfOk-weaker c.turn-else-is_nothing-3.result _ _
    (λ x h. both_written _ _ _ _ _ c.in_ok-turn-in-Or.ensures
    (both_written _ _ _ _ _ c.in_ok-write_beside-in-Or.ensures
    (both_written _ _ _ _ _ c.in_ok-turn-in-Or-2.ensures (both_written _ _ _ _ _ c.in_ok-write-in-Or.ensures h))))
    c.turn-else-is_nothing-3.ensures))

pub write-returns-in_ok-write-in-Behind : goal.write-returns-in_ok-write-in-Behind
write-returns-in_ok-write-in-Behind t c =
    rw (c.in-Behind.is, outlined-Behind, ← c.deref-in-Behind.ensures)
    (IfOk-weaker c.turn-in-Behind-2.result _ _
    (λ x h. both_written _ _ _ _ _ c.in_ok-turn-in-Behind.ensures (both_written _ _ _ _ _ c.in_ok-write-in-Behind.ensures h))
    c.turn-in-Behind-2.ensures)

pub write-returns-in_ok-write_glance-in-Ahead : goal.write-returns-in_ok-write_glance-in-Ahead
write-returns-in_ok-write_glance-in-Ahead t c =
    rw (c.in-Ahead.is, outlined-Ahead, ← c.deref-in-Ahead.ensures)
    (IfOk-weaker c.turn-in-Ahead-2.result _ _
    (λ x h. both_written _ _ _ _ _ c.in_ok-turn-in-Ahead.ensures (both_written _ _ _ _ _ c.in_ok-write_glance-in-Ahead.ensures h))
    c.turn-in-Ahead-2.ensures)

pub write_beside-returns-in_ok-turn-in-Or : goal.write_beside-returns-in_ok-turn-in-Or
write_beside-returns-in_ok-turn-in-Or t c =
    rw (c.in-Or.is, outlined-Or, ← c.deref.ensures, ← c.deref-in-Or.ensures)
    (IfOk-weaker c.write.result _ _
    (λ x h. both_written _ _ _ _ _ c.in_ok-write_beside-in-Or.ensures
    (both_written _ _ _ _ _ c.in_ok-turn-in-Or.ensures h))
    c.write.ensures)

pub write_beside-returns-in_default : goal.write_beside-returns-in_default
write_beside-returns-in_default t c =
    rw (alone_beside c.args.outline.now c.in_default.not-Or c.in_default.not-Repeated) c.write-in_default.ensures

pub write_beside-returns-in-ZeroOrMore : goal.write_beside-returns-in-ZeroOrMore
write_beside-returns-in-ZeroOrMore t c =
    let same : alternatives (outline_pattern c.args.outline.now) ≡ program (outline_pattern c.args.outline.now) =
    grind (arith, shapes, repeated_beside) in
    rw same c.write-in-ZeroOrMore.ensures

pub write_copies-returns : goal.write_copies-returns
write_copies-returns t c =
    repeats_program c.copy.result _ _ _ _ _ _ c.len-from.ensures c.if-count-eq0.false c.in_ok-write.ensures c.copy.ensures

pub write_options-returns : goal.write_options-returns
write_options-returns t c =
    repeats_program c.copy.result _ _ _ _ _ _ c.len-from.ensures c.if-count-eq0.false c.in_ok-write_option.ensures
    c.copy.ensures
