use Rattle.strkw_keywords.proofs.Intervals.{empty_by_its_ends}
use Rattle.strkw_keywords.proofs.laws.windows_are_empty_by_their_ends.Goals as goal

pub returns : goal.returns
returns c = empty_by_its_ends
