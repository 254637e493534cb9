use Rattle.std.proofs.Common.{arith}
use Rattle.strkw_text.proofs.Equivalences.{MatchOption-map, iff_trans}
use Rattle.strkw_uri.proofs.Variables.{behind_comma, behind_brace, behind_neither}
use Rattle.strkw_uri.proofs.template.after_variables.Goals as goal

pub loop-after-init : goal.loop-after-init
loop-after-init c = (c.utf8.text, (λ tail. (λ h. h, λ h. h)), omega arith)

pub loop-after-preserved : goal.loop-after-preserved
loop-after-preserved c = (
  c.in-Some-strip.ensures.utf8,
  (λ tail. iff_trans (c.loop-after.invariant.1 tail) (iff_trans (c.in-Some.ensures.cases tail) (behind_comma tail _ _ c.in-Some-strip.ensures.cases))),
  omega (arith, c.in-Some-strip.ensures.shorter, c.in-Some.ensures.shorter, c.loop-after.invariant.2),
)

pub returns-in-None-clause-cases : goal.returns-in-None-clause-cases
returns-in-None-clause-cases c =
    MatchOption-map _ _ _ _ c.strip-in-None.result
    (λ no_brace tail h. behind_neither tail _ c.in-None.ensures.cases no_brace ((c.in-Some.ensures.cases tail).0 ((c.loop-after.invariant.1 tail).0 h)))
    (λ x brace tail. iff_trans (c.loop-after.invariant.1 tail) (iff_trans (c.in-Some.ensures.cases tail) (behind_brace tail _ _ brace)))
    c.strip-in-None.ensures.cases

pub returns-clause-cases : goal.returns-clause-cases
returns-clause-cases c = λ tail h. c.in_default.ensures.cases tail ((c.loop-after.invariant.1 tail).0 h)
