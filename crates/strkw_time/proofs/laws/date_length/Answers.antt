use Rattle.strkw_time.proofs.Windows.{date_window}
use Rattle.strkw_time.proofs.laws.date_length.Goals as goal

pub returns : goal.returns
returns c = date_window
