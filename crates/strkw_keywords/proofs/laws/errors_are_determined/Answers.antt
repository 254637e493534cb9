use Rattle.strkw_keywords.proofs.Determined.{errors_determined}
use Rattle.strkw_keywords.proofs.laws.errors_are_determined.Goals as goal

pub returns : goal.returns
returns c = errors_determined c.encodes_once.ensures
