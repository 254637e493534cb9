use Rattle.std.proofs.Common.{arith}
use Rattle.std.proofs.lemmas.Bool.{false≢true}
use Rattle.std.proofs.lemmas.Bool.Decides.{nat_tests}
use Rattle.std.proofs.lemmas.Int.Digits.{digits_more}
use Rattle.strkw_net.proofs.UuidLemmas.{AllDigits-at}
use Rattle.strkw_net.proofs.uuid.is_hexadecimal.Goals as goal

pub returns-then-not-is_ascii_hexdigit : goal.returns-then-not-is_ascii_hexdigit
returns-then-not-is_ascii_hexdigit c = (
  λ e. absurd (false≢true e),
  λ d.
      let at = AllDigits-at 16 c.args.bytes.now c.loop-b.b-index d (omega arith) in absurd (grind (arith, nat_tests)),
)

pub loop-b-preserved : goal.loop-b-preserved
loop-b-preserved c = digits_more 16 c.args.bytes.now c.loop-b.b-index (omega arith) c.loop-b.invariant (grind (arith, nat_tests))
