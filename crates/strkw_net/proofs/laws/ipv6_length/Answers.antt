use Rattle.strkw_net.proofs.Windows.{ipv6_window}
use Rattle.strkw_net.proofs.laws.ipv6_length.Goals as goal

pub returns-clause-at_least : goal.returns-clause-at_least
returns-clause-at_least c = λ text d. (ipv6_window text d).0

pub returns-clause-at_most : goal.returns-clause-at_most
returns-clause-at_most c = λ text d. (ipv6_window text d).1
