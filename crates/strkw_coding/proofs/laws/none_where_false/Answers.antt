use Rattle.strkw_coding.proofs.Outcomes.{none_where_false}
use Rattle.strkw_coding.proofs.laws.none_where_false.Goals as goal

pub returns : goal.returns
returns c = none_where_false
