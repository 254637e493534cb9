use Rattle.std.proofs.Common.{arith}
use Rattle.strkw_text.proofs.Equivalences.{carry, nope}
use Rattle.strkw_text.proofs.Optionals.{empty_test}
use Rattle.strkw_text.proofs.Runs.{no_start_whole}
use Rattle.strkw_time.specs.Duration.{Amount}
use Rattle.strkw_time.proofs.Durations.{as_unit, lacks_all, lacks_other, by_amount_alone}
use Rattle.strkw_time.proofs.duration.is_dur_second.Goals as goal

pub returns-in_default : goal.returns-in_default
returns-in_default c = nope (no_start_whole (Amount 83) c.args.bytes.now (lacks_all c.args.bytes.now c.in_default.ensures.none 83 (omega arith)))

pub returns-in-83 : goal.returns-in-83
returns-in-83 c = carry (empty_test c.in-Some.rest.now) (by_amount_alone 83 c.args.bytes.now c.in-Some.rest.now
    (as_unit 83 c.in-Some.unit c.args.bytes.now c.in-Some.rest.now c.in-83.is c.in-Some.ensures.some))

pub returns-in_default-unit : goal.returns-in_default-unit
returns-in_default-unit c = nope (no_start_whole (Amount 83) c.args.bytes.now
    (lacks_other c.in-Some.unit 83 c.args.bytes.now c.in-Some.rest.now c.in-Some.ensures.some (omega arith) (λ e. omega arith)))
