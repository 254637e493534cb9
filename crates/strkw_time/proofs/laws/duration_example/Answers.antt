use Rattle.strkw_time.proofs.Examples.{duration_example}
use Rattle.strkw_time.proofs.laws.duration_example.Goals as goal

pub returns : goal.returns
returns c = duration_example
