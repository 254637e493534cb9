use Rattle.strkw_keywords.proofs.InTurn.{reports_determined}
use Rattle.strkw_keywords.proofs.laws.reports_are_determined.Goals as goal

pub returns : goal.returns
returns c = reports_determined c.encodes_once.ensures
