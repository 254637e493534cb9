use Rattle.strkw_label.proofs.HostNameExamples.{shortest, longest}
use Rattle.strkw_label.proofs.laws.ends_of_the_length_window_are_host_names.Goals as goal

pub returns-clause-shortest : goal.returns-clause-shortest
returns-clause-shortest c = shortest

pub returns-clause-longest : goal.returns-clause-longest
returns-clause-longest c = longest
