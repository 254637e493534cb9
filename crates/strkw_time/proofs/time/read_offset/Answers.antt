use Rattle.std.proofs.Common.{arith, inl, inr, refl, ℤ}
use Rattle.std.proofs.lemmas.Int.{ints}
use Rattle.strkw_time.specs.Time.{IsTimeOffset}
use Rattle.strkw_time.proofs.Times.{numoffset_at, offset_digits, offset_ranges}
use Rattle.strkw_time.proofs.time.read_offset.Goals as goal

pub returns-in_err-hour-clause-none : goal.returns-in_err-hour-clause-none
returns-in_err-hour-clause-none c =
    let none : (offset : ℤ) → IsTimeOffset offset c.args.bytes.now → ⊥ =
    λ offset o. c.in_err-hour.ensures (offset_digits offset c.args.bytes.now o c.if-bytes-ne6.false).0 in
    rw c.from_residual.ensures none

pub returns-in_err-minute-clause-none : goal.returns-in_err-minute-clause-none
returns-in_err-minute-clause-none c =
    let none : (offset : ℤ) → IsTimeOffset offset c.args.bytes.now → ⊥ =
    λ offset o. c.in_err-minute.ensures (offset_digits offset c.args.bytes.now o c.if-bytes-ne6.false).1 in
    rw c.from_residual-in_err-minute.ensures none

pub returns-in-43-clause-some : goal.returns-in-43-clause-some
returns-in-43-clause-some c = inr (record {
  sign = 43;
  hour = c.in_ok-hour.hour;
  minute = c.in_ok-minute.minute;
  spelled = (numoffset_at 43 c.in_ok-hour.hour c.in_ok-minute.minute c.args.bytes.now).1
      (record {
        size = c.if-bytes-ne6.false;
        sign_at = c.in-43.is;
        colon = c.if-bytes-ne58.false;
        hour_at = c.in_ok-hour.ensures;
        minute_at = c.in_ok-minute.ensures;
      });
  hour_fits = omega arith;
  minute_fits = omega arith;
  minutes_east = inl (refl, omega (arith, ints));
})

pub returns-in-45-clause-some : goal.returns-in-45-clause-some
returns-in-45-clause-some c = inr (record {
  sign = 45;
  hour = c.in_ok-hour.hour;
  minute = c.in_ok-minute.minute;
  spelled = (numoffset_at 45 c.in_ok-hour.hour c.in_ok-minute.minute c.args.bytes.now).1
      (record {
        size = c.if-bytes-ne6.false;
        sign_at = c.in-45.is;
        colon = c.if-bytes-ne58.false;
        hour_at = c.in_ok-hour.ensures;
        minute_at = c.in_ok-minute.ensures;
      });
  hour_fits = omega arith;
  minute_fits = omega arith;
  minutes_east = inr (refl, omega (arith, ints));
})

pub returns-then-hour-gt23-clause-none : goal.returns-then-hour-gt23-clause-none
returns-then-hour-gt23-clause-none c = λ offset o. omega (arith, (offset_ranges offset c.args.bytes.now o c.if-bytes-ne6.false).0, c.in_ok-hour.ensures.1)

pub returns-then-minute-gt59-clause-none : goal.returns-then-minute-gt59-clause-none
returns-then-minute-gt59-clause-none c = λ offset o. omega (arith, (offset_ranges offset c.args.bytes.now o c.if-bytes-ne6.false).1, c.in_ok-minute.ensures.1)
