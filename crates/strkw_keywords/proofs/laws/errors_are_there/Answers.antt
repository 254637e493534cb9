use Rattle.strkw_keywords.proofs.Existence.{errors_there}
use Rattle.strkw_keywords.proofs.laws.errors_are_there.Goals as goal

pub returns : goal.returns
returns c = errors_there
