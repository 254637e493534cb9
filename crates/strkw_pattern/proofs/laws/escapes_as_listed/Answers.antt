use Rattle.std.proofs.Common.{arith}
use Rattle.std.proofs.lemmas.Bool.Decides.{nat_tests}
use Rattle.strkw_pattern.specs.Literal.{is_escapable}
use Rattle.strkw_pattern.proofs.laws.escapes_as_listed.Goals as goal

pub returns : goal.returns
unfolding is_escapable
returns c = λ x. grind (arith, nat_tests)
