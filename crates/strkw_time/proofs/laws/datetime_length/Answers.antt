use Rattle.strkw_time.proofs.Windows.{datetime_window}
use Rattle.strkw_time.proofs.laws.datetime_length.Goals as goal

pub returns : goal.returns
returns c = datetime_window
