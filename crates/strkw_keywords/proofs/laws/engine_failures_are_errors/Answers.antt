use Rattle.strkw_keywords.proofs.InTurn.{failures}
use Rattle.strkw_keywords.proofs.laws.engine_failures_are_errors.Goals as goal

pub returns : goal.returns
returns c = failures
