use Rattle.strkw_net.proofs.Windows.{uuid_window}
use Rattle.strkw_net.proofs.laws.uuid_length.Goals as goal

pub returns : goal.returns
returns c = uuid_window
