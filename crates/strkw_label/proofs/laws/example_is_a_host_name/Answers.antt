use Rattle.strkw_label.proofs.HostNameExamples.{example_com}
use Rattle.strkw_label.proofs.laws.example_is_a_host_name.Goals as goal

pub returns : goal.returns
returns c = example_com
