use Rattle.std.proofs.Common.{arith, ◌∙◌, sym, ap, subst, ◌≡◌, ℤ, pos, ◌+◌, ◌*◌, ◌-ℤ◌, to_z, of_z, w32}
use Rattle.std.proofs.lemmas.Int.{ints}
use Rattle.std.specs.Int.{int_rem_euclid}
use Rattle.std.proofs.lemmas.List.{take_rest}
use Rattle.std.proofs.lemmas.Bool.Decides.{nat_tests}
use Rattle.strkw_text.proofs.Equivalences.{nope}
use Rattle.strkw_time.specs.Time.{IsTimeOffset}
use Rattle.strkw_time.proofs.Times.{time_places, zone_of, full_time_spelled, offset_same}
use Rattle.strkw_time.proofs.time.is_full_time.Goals as goal

pub returns-in_default : goal.returns-in_default
returns-in_default c = nope (λ t. c.in_default.ensures (time_places _ t).hour_at.0)

pub returns-in_default-parse_two_digits : goal.returns-in_default-parse_two_digits
returns-in_default-parse_two_digits c = nope (λ t. c.in_default-parse_two_digits.ensures (time_places _ t).minute_at.0)

pub returns-in_default-parse_two_digits-2 : goal.returns-in_default-parse_two_digits-2
returns-in_default-parse_two_digits-2 c = nope (λ t. c.in_default-parse_two_digits-2.ensures (time_places _ t).second_at.0)

pub returns-then-hour-gt23 : goal.returns-then-hour-gt23
returns-then-hour-gt23 c = nope (λ t. omega (arith, (time_places _ t).hour_at.1, t.hour_fits, c.in-Some.ensures.1))

pub returns-then-minute-gt59 : goal.returns-then-minute-gt59
returns-then-minute-gt59 c = nope (λ t. omega (arith, (time_places _ t).minute_at.1, t.minute_fits, c.in-Some-parse_two_digits.ensures.1))

pub returns-then-second-gt60 : goal.returns-then-second-gt60
returns-then-second-gt60 c = nope (λ t. omega (arith, (time_places _ t).second_at.1, t.second_fits, c.in-Some-parse_two_digits-2.ensures.1))

pub returns-in_default-after_fraction : goal.returns-in_default-after_fraction
returns-in_default-after_fraction c = nope (λ t.
    let z = zone_of c.args.bytes.now _ t (take_rest c.args.bytes.now 8) in
    c.in_default-after_fraction.ensures.ends z.zone z.starts z.ends)

pub returns-in_default-read_offset : goal.returns-in_default-read_offset
returns-in_default-read_offset c = nope (λ t.
    let z = zone_of c.args.bytes.now _ t (take_rest c.args.bytes.now 8) in
    let same = c.in-Some-after_fraction.ensures.ends z.zone z.starts z.ends in
    c.in_default-read_offset.ensures.none t.offset (subst (IsTimeOffset t.offset) (sym same) z.is))

pub returns-then-second-lt60 : goal.returns-then-second-lt60
returns-then-second-lt60 c = (
  λ e. record {
    hour = c.in-Some.hour;
    minute = c.in-Some-parse_two_digits.minute;
    second = c.in-Some-parse_two_digits-2.second;
    offset = c.in-Some-read_offset.offset;
    spelled = full_time_spelled c.args.bytes.now _ c.in-Some-after_fraction.zone.now _ _ _ _ c.if-bytes-lt9.false c.if-bytes-ne58.false c.if-bytes-ne58-2.false
        c.in-Some.ensures c.in-Some-parse_two_digits.ensures c.in-Some-parse_two_digits-2.ensures (take_rest c.args.bytes.now 8)
        c.in-Some-after_fraction.ensures.some c.in-Some-read_offset.ensures.some;
    hour_fits = omega arith;
    minute_fits = omega arith;
    second_fits = omega arith;
    leap_second = λ sixty. absurd (omega arith);
  },
  λ t. grind (arith, nat_tests),
)

pub returns-else-second-lt60 : goal.returns-else-second-lt60
returns-else-second-lt60 c =
    let bs = c.args.bytes.now in
    let passed : to_z w32 (of_z w32 c.in-Some-read_offset.offset) ≡ c.in-Some-read_offset.offset = omega (arith, ints) in
    let last = λ (x : ℤ). int_rem_euclid (pos (60 * c.in-Some.hour + c.in-Some-parse_two_digits.minute) -ℤ x) (pos 1440) in (
      λ e. record {
        hour = c.in-Some.hour;
        minute = c.in-Some-parse_two_digits.minute;
        second = c.in-Some-parse_two_digits-2.second;
        offset = c.in-Some-read_offset.offset;
        spelled = full_time_spelled c.args.bytes.now _ c.in-Some-after_fraction.zone.now _ _ _ _ c.if-bytes-lt9.false c.if-bytes-ne58.false
            c.if-bytes-ne58-2.false
            c.in-Some.ensures c.in-Some-parse_two_digits.ensures c.in-Some-parse_two_digits-2.ensures (take_rest c.args.bytes.now 8)
            c.in-Some-after_fraction.ensures.some c.in-Some-read_offset.ensures.some;
        hour_fits = omega arith;
        minute_fits = omega arith;
        second_fits = omega arith;
        leap_second = λ sixty. ap last (sym passed) ∙ c.is_last_minute.ensures.0 e;
      },
      λ t.
          let p = time_places bs t in
          let z = zone_of bs _ t (take_rest bs 8) in
          let zone = c.in-Some-after_fraction.ensures.ends z.zone z.starts z.ends in
          let offset : t.offset ≡ c.in-Some-read_offset.offset =
          offset_same z.zone t.offset c.in-Some-read_offset.offset z.is
          (subst (IsTimeOffset c.in-Some-read_offset.offset) zone c.in-Some-read_offset.ensures.some) in
          let hour : t.hour ≡ c.in-Some.hour = p.hour_at.1 ∙ sym c.in-Some.ensures.1 in
          let minute : t.minute ≡ c.in-Some-parse_two_digits.minute = p.minute_at.1 ∙ sym c.in-Some-parse_two_digits.ensures.1 in
          let sixty : t.second ≡ 60 = p.second_at.1 ∙ sym c.in-Some-parse_two_digits-2.ensures.1 ∙ omega arith in
          let now = t.leap_second sixty in
          let same : int_rem_euclid (pos (60 * t.hour + t.minute) -ℤ t.offset) (pos 1440)
          ≡ int_rem_euclid (pos (60 * c.in-Some.hour + c.in-Some-parse_two_digits.minute) -ℤ c.in-Some-read_offset.offset) (pos 1440) = cc in
          c.is_last_minute.ensures.1 (ap last passed ∙ (sym same ∙ now)),
    )
