use Rattle.std.proofs.Common.{arith, ap, length}
use Rattle.std.proofs.lemmas.List.{length-append}
use Rattle.strkw_time.proofs.Times.{fraction_found, fraction_ends}
use Rattle.strkw_time.proofs.Durations.{digits_run}
use Rattle.strkw_time.proofs.time.after_fraction.Goals as goal

pub returns-clause-some : goal.returns-clause-some
returns-clause-some c =
    let s = c.split_digits.ensures in
    let run = digits_run c.in-Some.after.now c.split_digits.result.0.now c.split_digits.result.1.now s.joined s.digits s.stops in
    fraction_found c.args.bytes.now c.in-Some.after.now c.split_digits.result.1.now c.in-Some.ensures run
    (λ e. omega (arith, e, ap length s.joined, length-append c.split_digits.result.0.now c.split_digits.result.1.now))

pub returns-clause-ends : goal.returns-clause-ends
returns-clause-ends c = λ r f ends.
    let s = c.split_digits.ensures in
    let run = digits_run c.in-Some.after.now c.split_digits.result.0.now c.split_digits.result.1.now s.joined s.digits s.stops in
    (fraction_ends c.args.bytes.now c.in-Some.after.now c.split_digits.result.1.now r c.in-Some.ensures run f ends).1
