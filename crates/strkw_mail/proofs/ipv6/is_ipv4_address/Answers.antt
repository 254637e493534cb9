use Rattle.std.proofs.Common.{◌≡◌, true, false, arith}
use Rattle.strkw_text.proofs.Equivalences.{carry, nope, iff_trans}
use Rattle.strkw_mail.proofs.Colons.{snums_step, snums_stop, snums_end}
use Rattle.strkw_mail.proofs.ipv6.is_ipv4_address.Goals as goal

pub loop-further-preserved : goal.loop-further-preserved
loop-further-preserved c =
    let i = snums_step c.loop-further.further (omega arith) c.loop-further.rest.now _ _ c.in-Some.ensures.cases.0 c.in-Some.ensures.cases.1 in
    iff_trans c.loop-further.invariant (λ h. (i.0 h).1, λ r. i.1 (c.is_snum.ensures.0 c.if-not-is_snum.false, r))

pub returns-then-not-is_snum : goal.returns-then-not-is_snum
returns-then-not-is_snum c =
    let i = snums_step c.loop-further.further (omega arith) c.loop-further.rest.now _ _ c.in-Some.ensures.cases.0 c.in-Some.ensures.cases.1 in
    carry (nope (λ h. let found : c.is_snum.result ≡ true = c.is_snum.ensures.1 (i.0 h).0 in
    let e : c.is_snum.result ≡ false = c.if-not-is_snum.true in cc)) c.loop-further.invariant

pub returns-in-None : goal.returns-in-None
returns-in-None c = carry (nope (snums_stop c.loop-further.further (omega arith) c.loop-further.rest.now c.in-None.ensures.cases)) c.loop-further.invariant

pub returns : goal.returns
returns c = carry c.is_snum-2.ensures (iff_trans c.loop-further.invariant (snums_end c.loop-further.further (omega arith) c.loop-further.rest.now))
