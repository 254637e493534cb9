use Rattle.strkw_time.proofs.Examples.{date_example}
use Rattle.strkw_time.proofs.laws.date_example.Goals as goal

pub returns : goal.returns
returns c = date_example
