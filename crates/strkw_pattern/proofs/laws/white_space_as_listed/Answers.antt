use Rattle.std.proofs.Common.{arith}
use Rattle.std.proofs.lemmas.Bool.Decides.{nat_tests}
use Rattle.strkw_pattern.proofs.laws.white_space_as_listed.Goals as goal

pub returns : goal.returns
returns c = λ x. grind (arith, nat_tests)
