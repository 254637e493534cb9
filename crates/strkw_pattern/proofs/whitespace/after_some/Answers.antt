use Rattle.std.proofs.Common.{sym, ◌∙◌, arith}
use Rattle.strkw_pattern.proofs.Clear.{any_first, any_later, nothing_left}
use Rattle.strkw_pattern.proofs.whitespace.after_some.Goals as goal

pub returns-then-is_ecma_whitespace-clause-cases : goal.returns-then-is_ecma_whitespace-clause-cases
returns-then-is_ecma_whitespace-clause-cases c =
    c.loop-c.invariant.1 ∙ any_first _ _ _ c.in-Some.ensures.cases (sym c.if-is_ecma_whitespace.ensures)

pub returns-then-text-after-ge-SOME-clause-cases : goal.returns-then-text-after-ge-SOME-clause-cases
returns-then-text-after-ge-SOME-clause-cases c =
    c.loop-c.invariant.1 ∙ any_later _ _ _ c.in-Some.ensures.cases (sym c.if-is_ecma_whitespace.ensures)

pub loop-c-preserved : goal.loop-c-preserved
loop-c-preserved c = (
  c.in-Some.ensures.utf8,
  c.loop-c.invariant.1 ∙ any_later _ _ _ c.in-Some.ensures.cases (sym c.if-is_ecma_whitespace.ensures),
  omega (arith, c.in-Some.ensures.shorter, c.loop-c.invariant.2),
)

pub returns-clause-shorter : goal.returns-clause-shorter
returns-clause-shorter c =
    let none = nothing_left c.loop-c.rest.now c.loop-c.invariant.0 c.in_default.ensures.cases in
    omega (arith, none)
