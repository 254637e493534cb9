use Rattle.strkw_time.proofs.Windows.{duration_window}
use Rattle.strkw_time.proofs.laws.duration_length.Goals as goal

pub returns : goal.returns
returns c = duration_window
