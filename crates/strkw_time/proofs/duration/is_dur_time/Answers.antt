use Rattle.std.proofs.Common.{arith}
use Rattle.strkw_text.proofs.Equivalences.{carry, nope, iff_trans}
use Rattle.strkw_text.proofs.Optionals.{empty_test, optional_some}
use Rattle.strkw_text.proofs.Laws.{literal_at}
use Rattle.strkw_time.specs.Duration.{DurSecond, DurMinute}
use Rattle.strkw_time.proofs.Durations.{TimeBody, as_unit, lacks_all, lacks_other, time_at_hour, time_at_minute, time_at_second, no_time_body}
use Rattle.strkw_time.proofs.duration.is_dur_time.Goals as goal

pub returns-in_default-split_amount : goal.returns-in_default-split_amount
returns-in_default-split_amount c =
    let lacks = lacks_all c.in-Some.bytes.now c.in_default-split_amount.ensures.none in
    nope (λ h. no_time_body c.in-Some.bytes.now (lacks 72 (omega arith)) (lacks 77 (omega arith)) (lacks 83 (omega arith))
    ((literal_at TimeBody 84 c.args.bytes.now c.in-Some.bytes.now c.in-Some.ensures).0 h))

pub returns-else-rest-eq0 : goal.returns-else-rest-eq0
returns-else-rest-eq0 c = carry (optional_some DurMinute c.in-Some-split_amount.rest.now c.if-rest-eq0.false c.is_dur_minute.ensures)
    (iff_trans (literal_at TimeBody 84 c.args.bytes.now c.in-Some.bytes.now c.in-Some.ensures)
    (time_at_hour c.in-Some.bytes.now c.in-Some-split_amount.rest.now
    (as_unit 72 c.in-Some-split_amount.unit c.in-Some.bytes.now c.in-Some-split_amount.rest.now c.in-72.is c.in-Some-split_amount.ensures.some)))

pub returns-else-rest-eq0-2 : goal.returns-else-rest-eq0-2
returns-else-rest-eq0-2 c = carry (optional_some DurSecond c.in-Some-split_amount.rest.now c.if-rest-eq0-2.false c.is_dur_second.ensures)
    (iff_trans (literal_at TimeBody 84 c.args.bytes.now c.in-Some.bytes.now c.in-Some.ensures)
    (time_at_minute c.in-Some.bytes.now c.in-Some-split_amount.rest.now
    (as_unit 77 c.in-Some-split_amount.unit c.in-Some.bytes.now c.in-Some-split_amount.rest.now c.in-77.is c.in-Some-split_amount.ensures.some)))

pub returns-in-83 : goal.returns-in-83
returns-in-83 c = carry (empty_test c.in-Some-split_amount.rest.now)
    (iff_trans (literal_at TimeBody 84 c.args.bytes.now c.in-Some.bytes.now c.in-Some.ensures)
    (time_at_second c.in-Some.bytes.now c.in-Some-split_amount.rest.now
    (as_unit 83 c.in-Some-split_amount.unit c.in-Some.bytes.now c.in-Some-split_amount.rest.now c.in-83.is c.in-Some-split_amount.ensures.some)))

pub returns-in_default-unit : goal.returns-in_default-unit
returns-in_default-unit c = nope (λ h. no_time_body c.in-Some.bytes.now
    (lacks_other c.in-Some-split_amount.unit 72 c.in-Some.bytes.now c.in-Some-split_amount.rest.now c.in-Some-split_amount.ensures.some (omega arith)
    (λ e. omega arith))
    (lacks_other c.in-Some-split_amount.unit 77 c.in-Some.bytes.now c.in-Some-split_amount.rest.now c.in-Some-split_amount.ensures.some (omega arith)
    (λ e. omega arith))
    (lacks_other c.in-Some-split_amount.unit 83 c.in-Some.bytes.now c.in-Some-split_amount.rest.now c.in-Some-split_amount.ensures.some (omega arith)
    (λ e. omega arith)) ((literal_at TimeBody 84 c.args.bytes.now c.in-Some.bytes.now c.in-Some.ensures).0 h))
