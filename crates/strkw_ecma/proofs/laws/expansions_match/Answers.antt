use Rattle.strkw_regex_core.proofs.Expansions.{expanded}
use Rattle.strkw_ecma.proofs.laws.expansions_match.Goals as goal

pub returns : goal.returns
returns c = λ p o text. expanded text p o
