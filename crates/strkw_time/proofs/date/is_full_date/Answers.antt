use Rattle.strkw_text.proofs.Equivalences.{nope}
use Rattle.strkw_time.proofs.Dates.{full_date_by_places, date_places}
use Rattle.strkw_time.proofs.date.is_full_date.Goals as goal

pub returns : goal.returns
returns c =
    let by_places = full_date_by_places c.args.bytes.now c.in-Some.year c.in-Some-parse_two_digits.month c.in-Some-parse_two_digits-2.day
    c.if-bytes-ne10.false c.if-bytes-ne45.false c.if-bytes-ne45-2.false c.in-Some.ensures c.in-Some-parse_two_digits.ensures
    c.in-Some-parse_two_digits-2.ensures in
    (λ t. by_places.0 (c.is_day.ensures.0 t), λ d. c.is_day.ensures.1 (by_places.1 d))

pub returns-in_default : goal.returns-in_default
returns-in_default c = nope (λ d. c.in_default.ensures (date_places _ d).year_at.0)

pub returns-in_default-parse_two_digits : goal.returns-in_default-parse_two_digits
returns-in_default-parse_two_digits c = nope (λ d. c.in_default-parse_two_digits.ensures (date_places _ d).month_at.0)

pub returns-in_default-parse_two_digits-2 : goal.returns-in_default-parse_two_digits-2
returns-in_default-parse_two_digits-2 c = nope (λ d. c.in_default-parse_two_digits-2.ensures (date_places _ d).day_at.0)
