use Rattle.std.proofs.Common.{arith}
use Rattle.std.proofs.lemmas.Bool.Decides.{nat_tests}
use Rattle.std.proofs.lemmas.Int.Digits.{digits_more}
use Rattle.strkw_time.proofs.readers.split_digits.Goals as goal

pub loop-b-preserved : goal.loop-b-preserved
loop-b-preserved c = (omega arith, digits_more 10 c.args.bytes.now c.loop-b.b-index (omega arith) c.loop-b.invariant.1 (grind (arith, nat_tests)))
