use Rattle.strkw_keywords.proofs.Existence.{reports_there}
use Rattle.strkw_keywords.proofs.laws.reports_are_there.Goals as goal

pub returns : goal.returns
returns c = reports_there
