use Rattle.std.proofs.Common.{arith}
use Rattle.strkw_text.proofs.Equivalences.{carry, nope}
use Rattle.strkw_text.proofs.Optionals.{optional_some}
use Rattle.strkw_text.proofs.Laws.{no_start_then}
use Rattle.strkw_text.specs.Abnf.{Optional}
use Rattle.strkw_time.specs.Duration.{Amount, DurSecond}
use Rattle.strkw_time.proofs.Durations.{as_unit, lacks_all, lacks_other, by_amount}
use Rattle.strkw_time.proofs.duration.is_dur_minute.Goals as goal

pub returns-in_default : goal.returns-in_default
returns-in_default c = nope (no_start_then (Amount 77) (Optional DurSecond) c.args.bytes.now
    (lacks_all c.args.bytes.now c.in_default.ensures.none 77 (omega arith)))

pub returns-else-rest-eq0 : goal.returns-else-rest-eq0
returns-else-rest-eq0 c = carry (optional_some DurSecond c.in-Some.rest.now c.if-rest-eq0.false c.is_dur_second.ensures)
    (by_amount 77 (Optional DurSecond) c.args.bytes.now c.in-Some.rest.now
    (as_unit 77 c.in-Some.unit c.args.bytes.now c.in-Some.rest.now c.in-77.is c.in-Some.ensures.some))

pub returns-in_default-unit : goal.returns-in_default-unit
returns-in_default-unit c = nope (no_start_then (Amount 77) (Optional DurSecond) c.args.bytes.now
    (lacks_other c.in-Some.unit 77 c.args.bytes.now c.in-Some.rest.now c.in-Some.ensures.some (omega arith) (λ e. omega arith)))
