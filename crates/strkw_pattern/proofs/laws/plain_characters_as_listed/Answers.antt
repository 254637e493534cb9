use Rattle.std.proofs.Common.{arith}
use Rattle.std.proofs.lemmas.Bool.Decides.{nat_tests}
use Rattle.strkw_pattern.specs.Literal.{is_plain}
use Rattle.strkw_pattern.proofs.laws.plain_characters_as_listed.Goals as goal

pub returns : goal.returns
unfolding is_plain
returns c = λ x. grind (arith, nat_tests)
