use Rattle.std.proofs.Common.{arith}
use Rattle.strkw_text.proofs.Equivalences.{carry, nope}
use Rattle.strkw_time.proofs.Durations.{as_unit, years_at_month, no_years, years_without}
use Rattle.strkw_time.proofs.duration.is_after_years.Goals as goal

pub returns-in_default : goal.returns-in_default
returns-in_default c = carry c.is_optional_time.ensures (years_without c.args.bytes.now c.in_default.ensures.none)

pub returns-in-77 : goal.returns-in-77
returns-in-77 c = carry c.is_after_months.ensures (years_at_month c.args.bytes.now c.in-Some.rest.now
    (as_unit 77 c.in-Some.unit c.args.bytes.now c.in-Some.rest.now c.in-77.is c.in-Some.ensures.some))

pub returns-in_default-unit : goal.returns-in_default-unit
returns-in_default-unit c = nope (no_years c.in-Some.unit c.args.bytes.now c.in-Some.rest.now c.in-Some.ensures.some (λ e. omega arith))
