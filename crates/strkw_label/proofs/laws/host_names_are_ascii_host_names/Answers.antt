use Rattle.strkw_label.proofs.HostNames.{ascii_host_name}
use Rattle.strkw_label.proofs.laws.host_names_are_ascii_host_names.Goals as goal

pub returns : goal.returns
returns c = ascii_host_name
