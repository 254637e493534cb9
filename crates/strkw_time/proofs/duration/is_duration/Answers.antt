use Rattle.std.proofs.Common.{arith}
use Rattle.strkw_text.proofs.Equivalences.{carry, nope, iff_trans}
use Rattle.strkw_text.proofs.Optionals.{empty_test}
use Rattle.strkw_text.proofs.Laws.{literal_at}
use Rattle.strkw_time.proofs.Durations.{DurBody, as_unit, body_at_day, body_at_month, body_at_year, body_at_week, no_body, body_without}
use Rattle.strkw_time.proofs.duration.is_duration.Goals as goal

pub returns-in_default-split_amount : goal.returns-in_default-split_amount
returns-in_default-split_amount c = carry c.is_dur_time.ensures
    (iff_trans (literal_at DurBody 80 c.args.bytes.now c.in-Some.bytes.now c.in-Some.ensures)
    (body_without c.in-Some.bytes.now c.in_default-split_amount.ensures.none))

pub returns-in-68 : goal.returns-in-68
returns-in-68 c = carry c.is_optional_time.ensures (iff_trans (literal_at DurBody 80 c.args.bytes.now c.in-Some.bytes.now c.in-Some.ensures)
    (body_at_day c.in-Some.bytes.now c.in-Some-split_amount.rest.now
    (as_unit 68 c.in-Some-split_amount.unit c.in-Some.bytes.now c.in-Some-split_amount.rest.now c.in-68.is c.in-Some-split_amount.ensures.some)))

pub returns-in-77 : goal.returns-in-77
returns-in-77 c = carry c.is_after_months.ensures (iff_trans (literal_at DurBody 80 c.args.bytes.now c.in-Some.bytes.now c.in-Some.ensures)
    (body_at_month c.in-Some.bytes.now c.in-Some-split_amount.rest.now
    (as_unit 77 c.in-Some-split_amount.unit c.in-Some.bytes.now c.in-Some-split_amount.rest.now c.in-77.is c.in-Some-split_amount.ensures.some)))

pub returns-in-89 : goal.returns-in-89
returns-in-89 c = carry c.is_after_years.ensures (iff_trans (literal_at DurBody 80 c.args.bytes.now c.in-Some.bytes.now c.in-Some.ensures)
    (body_at_year c.in-Some.bytes.now c.in-Some-split_amount.rest.now
    (as_unit 89 c.in-Some-split_amount.unit c.in-Some.bytes.now c.in-Some-split_amount.rest.now c.in-89.is c.in-Some-split_amount.ensures.some)))

pub returns-in-87 : goal.returns-in-87
returns-in-87 c = carry (empty_test c.in-Some-split_amount.rest.now)
    (iff_trans (literal_at DurBody 80 c.args.bytes.now c.in-Some.bytes.now c.in-Some.ensures)
    (body_at_week c.in-Some.bytes.now c.in-Some-split_amount.rest.now
    (as_unit 87 c.in-Some-split_amount.unit c.in-Some.bytes.now c.in-Some-split_amount.rest.now c.in-87.is c.in-Some-split_amount.ensures.some)))

pub returns-in_default-unit : goal.returns-in_default-unit
returns-in_default-unit c = nope (λ h. no_body c.in-Some-split_amount.unit c.in-Some.bytes.now c.in-Some-split_amount.rest.now
    c.in-Some-split_amount.ensures.some (λ e. omega arith) (λ e. omega arith) (λ e. omega arith) (λ e. omega arith)
    ((literal_at DurBody 80 c.args.bytes.now c.in-Some.bytes.now c.in-Some.ensures).0 h))
