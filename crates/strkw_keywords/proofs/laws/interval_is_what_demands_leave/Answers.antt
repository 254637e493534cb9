use Rattle.strkw_keywords.proofs.Folding.{interval_is_left}
use Rattle.strkw_keywords.proofs.laws.interval_is_what_demands_leave.Goals as goal

pub returns : goal.returns
returns c = interval_is_left
