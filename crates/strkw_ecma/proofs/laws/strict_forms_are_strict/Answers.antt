use Rattle.strkw_ecma.proofs.StrictPatterns.{stays_strict}
use Rattle.strkw_ecma.proofs.laws.strict_forms_are_strict.Goals as goal

pub returns : goal.returns
returns c = stays_strict
