use Rattle.std.proofs.Common.{◌≡◌, true, false, arith, inl, inr}
use Rattle.std.proofs.lemmas.Bool.Decides.{nat_tests}
use Rattle.strkw_text.proofs.Equivalences.{carry, nope, iff_trans}
use Rattle.strkw_mail.proofs.Colons.{some_group, some_step, some_last}
use Rattle.strkw_mail.proofs.ipv6.is_some_groups.Goals as goal

pub loop-group-preserved : goal.loop-group-preserved
loop-group-preserved c = iff_trans c.loop-group.invariant
    (some_step c.loop-group.rest.now _ _ c.in-Some.ensures.cases.0 c.in-Some.ensures.cases.1 c.loop-group.left c.if-left-lt2.false
    (c.is_group.ensures.0 c.if-not-is_group.false))

pub returns-then-left-lt2 : goal.returns-then-left-lt2
returns-then-left-lt2 c = carry (nope (λ h.
    let g = some_group c.loop-group.rest.now _ _ c.in-Some.ensures.cases.0 c.in-Some.ensures.cases.1 c.loop-group.left h in
    omega (arith, g.0))) c.loop-group.invariant

pub returns-then-not-is_group : goal.returns-then-not-is_group
returns-then-not-is_group c = carry (nope (λ h.
    let g = some_group c.loop-group.rest.now _ _ c.in-Some.ensures.cases.0 c.in-Some.ensures.cases.1 c.loop-group.left h in
    let found : c.is_group.result ≡ true = c.is_group.ensures.1 g.1 in
    let e : c.is_group.result ≡ false = c.if-not-is_group.true in cc)) c.loop-group.invariant

pub returns : goal.returns
returns c =
    let i = some_last c.loop-group.rest.now c.in_default.ensures.cases c.loop-group.left in
    carry c.is_last.ensures (iff_trans c.loop-group.invariant (iff_trans i (
      elim [ inl p ↦ inl (grind (arith, nat_tests, p.0), p.1) | inr p ↦ inr (grind (arith, nat_tests, p.0), p.1) ],
      elim [ inl p ↦ inl (grind (arith, nat_tests, p.0), p.1) | inr p ↦ inr (grind (arith, nat_tests, p.0), p.1) ],
    )))
