use Rattle.std.proofs.Common.{◌≡◌, true, false, arith, inl, inr}
use Rattle.std.proofs.lemmas.Bool.Decides.{nat_tests}
use Rattle.strkw_text.proofs.Equivalences.{carry, nope, iff_trans}
use Rattle.strkw_mail.proofs.Colons.{from_group, from_single, from_double, from_last}
use Rattle.strkw_mail.proofs.ipv6.is_from_group.Goals as goal

pub loop-group-preserved : goal.loop-group-preserved
loop-group-preserved c = iff_trans c.loop-group.invariant
    (from_single c.loop-group.rest.now _ _ c.in-Some.ensures.cases.0 c.in-Some.ensures.cases.1 (c.is_group.ensures.0 c.if-not-is_group.false)
    c.loop-group.left c.if-left-lt1.false c.in_default-strip.ensures.cases)

pub returns-then-left-lt1 : goal.returns-then-left-lt1
returns-then-left-lt1 c = carry (nope (λ h.
    let g = from_group c.loop-group.rest.now _ _ c.in-Some.ensures.cases.0 c.in-Some.ensures.cases.1 c.loop-group.left h in
    omega (arith, g.0))) c.loop-group.invariant

pub returns-then-not-is_group : goal.returns-then-not-is_group
returns-then-not-is_group c = carry (nope (λ h.
    let g = from_group c.loop-group.rest.now _ _ c.in-Some.ensures.cases.0 c.in-Some.ensures.cases.1 c.loop-group.left h in
    let found : c.is_group.result ≡ true = c.is_group.ensures.1 g.1 in
    let e : c.is_group.result ≡ false = c.if-not-is_group.true in cc)) c.loop-group.invariant

pub returns : goal.returns
returns c =
    let i = from_last c.loop-group.rest.now c.in_default.ensures.cases c.loop-group.left in
    carry c.is_last.ensures (iff_trans c.loop-group.invariant (iff_trans i (
      elim [ inl p ↦ inl (grind (arith, nat_tests, p.0), p.1) | inr p ↦ inr (grind (arith, nat_tests, p.0), p.1) ],
      elim [ inl p ↦ inl (grind (arith, nat_tests, p.0), p.1) | inr p ↦ inr (grind (arith, nat_tests, p.0), p.1) ],
    )))

pub returns-then-left-gt1 : goal.returns-then-left-gt1
returns-then-left-gt1 c =
    let d = from_double c.loop-group.rest.now _ _ c.in-Some.ensures.cases.0 c.in-Some.ensures.cases.1 (c.is_group.ensures.0 c.if-not-is_group.false)
    c.loop-group.left c.if-left-lt1.false _ c.in-Some-strip.ensures.cases in
    carry c.is_groups_behind.ensures (iff_trans c.loop-group.invariant (iff_trans d (λ p. p.1, λ g. (c.if-left-gt1.true, g))))

pub returns-else-left-gt1 : goal.returns-else-left-gt1
returns-else-left-gt1 c =
    let d = from_double c.loop-group.rest.now _ _ c.in-Some.ensures.cases.0 c.in-Some.ensures.cases.1 (c.is_group.ensures.0 c.if-not-is_group.false)
    c.loop-group.left c.if-left-lt1.false _ c.in-Some-strip.ensures.cases in (
      λ t. absurd (grind (arith, nat_tests, t, c.if-left-gt1.false)),
      λ h. let p = d.0 (c.loop-group.invariant.0 h) in absurd (omega (arith, p.0, c.if-left-gt1.false)),
    )
