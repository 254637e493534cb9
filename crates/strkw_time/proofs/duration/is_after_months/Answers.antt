use Rattle.std.proofs.Common.{arith}
use Rattle.strkw_text.proofs.Equivalences.{carry, nope}
use Rattle.strkw_time.proofs.Durations.{as_unit, months_at_day, no_months, months_without}
use Rattle.strkw_time.proofs.duration.is_after_months.Goals as goal

pub returns-in_default : goal.returns-in_default
returns-in_default c = carry c.is_optional_time.ensures (months_without c.args.bytes.now c.in_default.ensures.none)

pub returns-in-68 : goal.returns-in-68
returns-in-68 c = carry c.is_optional_time-in-68.ensures
    (months_at_day c.args.bytes.now c.in-Some.rest.now (as_unit 68 c.in-Some.unit c.args.bytes.now c.in-Some.rest.now c.in-68.is c.in-Some.ensures.some))

pub returns-in_default-unit : goal.returns-in_default-unit
returns-in_default-unit c = nope (no_months c.in-Some.unit c.args.bytes.now c.in-Some.rest.now c.in-Some.ensures.some (λ e. omega arith))
