use Rattle.std.proofs.Common.{arith, subst, ap}
use Rattle.std.specs.Str.Parse.{AllDigits, digits_value}
use Rattle.std.proofs.lemmas.Bool.Decides.{nat_tests}
use Rattle.std.proofs.lemmas.List.{take_all}
use Rattle.strkw_text.proofs.Equivalences.{nope}
use Rattle.strkw_net.proofs.UuidLemmas.{AllDigits-at}
use Rattle.strkw_mail.proofs.Numbers.{snum_digits, digit_read}
use Rattle.strkw_mail.proofs.ipv6.is_snum.Goals as goal

pub returns-then-bytes-lt1 : goal.returns-then-bytes-lt1
returns-then-bytes-lt1 c = nope (λ s. let d = (snum_digits c.args.bytes.now).0 s in omega (arith, d.1, d.2, c.then-bytes-lt1.either))

pub returns-then-not-is_ascii_digit : goal.returns-then-not-is_ascii_digit
returns-then-not-is_ascii_digit c = nope (λ s.
    let d = (snum_digits c.args.bytes.now).0 s in
    let at = AllDigits-at 10 c.args.bytes.now c.loop-digit.digit-index d.0 (omega arith) in
    grind (arith, nat_tests))

pub loop-digit-preserved : goal.loop-digit-preserved
loop-digit-preserved c =
    let r = digit_read c.args.bytes.now c.loop-digit.digit-index c.loop-digit.number (omega arith) c.if-bytes-gt3.false c.loop-digit.invariant.0
    c.loop-digit.invariant.1 (grind (arith, nat_tests)) in
    (r.0, omega (arith, r.1, c.from.ensures), omega (arith, r.1, r.2, c.from.ensures))

pub returns : goal.returns
returns c =
    let bs = c.args.bytes.now in
    let i = snum_digits bs in
    let whole = take_all c.loop-digit.digit-index bs (omega arith) in
    let all = subst (AllDigits 10) whole c.loop-digit.invariant.0 in
    let value = ap (digits_value 10) whole in (
      λ t. i.1 (all, c.if-bytes-lt1.false, c.if-bytes-gt3.false, grind (arith, nat_tests)),
      λ s. let fits = (i.0 s).3 in grind (arith, nat_tests),
    )
