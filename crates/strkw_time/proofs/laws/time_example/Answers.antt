use Rattle.strkw_time.proofs.Examples.{time_example}
use Rattle.strkw_time.proofs.laws.time_example.Goals as goal

pub returns : goal.returns
returns c = time_example
