use Rattle.strkw_pattern.proofs.Searches.{outcome_exists}
use Rattle.strkw_pattern.proofs.laws.outcome_exists.Goals as goal

pub returns : goal.returns
returns c = outcome_exists
