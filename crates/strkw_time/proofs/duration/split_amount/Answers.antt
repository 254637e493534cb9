use Rattle.std.proofs.Common.{arith}
use Rattle.std.proofs.Common.{ap, length}
use Rattle.strkw_time.proofs.Durations.{digits_run, amount_of_split, amount_next}
use Rattle.strkw_time.proofs.duration.split_amount.Goals as goal

pub returns-then-rest-eq0-clause-none : goal.returns-then-rest-eq0-clause-none
returns-then-rest-eq0-clause-none c = λ unit rest a.
    let s = c.split_digits.ensures in
    let run = digits_run c.args.bytes.now c.split_digits.result.0.now c.split_digits.result.1.now s.joined s.digits s.stops in
    omega (arith, ap length (amount_next unit c.args.bytes.now c.split_digits.result.1.now rest a run))

pub returns-clause-some : goal.returns-clause-some
returns-clause-some c =
    let s = c.split_digits.ensures in
    amount_of_split c.args.bytes.now c.split_digits.result.0.now c.split_digits.result.1.now s.joined s.digits s.stops c.if-digits-eq0.false c.if-rest-eq0.false
