use Rattle.strkw_time.proofs.Windows.{time_window}
use Rattle.strkw_time.proofs.laws.time_length.Goals as goal

pub returns : goal.returns
returns c = time_window
