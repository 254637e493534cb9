use Rattle.strkw_net.proofs.Examples.{uuid_example}
use Rattle.strkw_net.proofs.laws.uuid_example.Goals as goal

pub returns : goal.returns
returns c = uuid_example
