use Rattle.strkw_label.proofs.HostNames.{host_name_window}
use Rattle.strkw_label.proofs.laws.host_name_length.Goals as goal

pub returns : goal.returns
returns c = host_name_window
