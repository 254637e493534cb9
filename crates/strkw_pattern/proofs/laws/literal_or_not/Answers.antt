use Rattle.strkw_pattern.proofs.Decision.{literal_or_not}
use Rattle.strkw_pattern.proofs.laws.literal_or_not.Goals as goal

pub returns : goal.returns
returns c = literal_or_not
