use Rattle.strkw_pattern.proofs.Trees.{literal_once}
use Rattle.strkw_pattern.proofs.laws.literal_is_determined.Goals as goal

pub returns : goal.returns
returns c = literal_once
