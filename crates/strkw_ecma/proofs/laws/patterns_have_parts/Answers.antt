use Rattle.strkw_ecma.proofs.FrontMeaning.{found_parts}
use Rattle.strkw_ecma.proofs.laws.patterns_have_parts.Goals as goal

pub returns : goal.returns
returns c = λ p text. found_parts text p
