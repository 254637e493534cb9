use Rattle.strkw_time.proofs.Examples.{datetime_example}
use Rattle.strkw_time.proofs.laws.datetime_example.Goals as goal

pub returns : goal.returns
returns c = datetime_example
