use Rattle.strkw_net.proofs.Examples.{ipv4_example, ipv4_shortest, ipv4_longest}
use Rattle.strkw_net.proofs.laws.ipv4_texts.Goals as goal

pub returns-clause-example : goal.returns-clause-example
returns-clause-example c = ipv4_example

pub returns-clause-shortest : goal.returns-clause-shortest
returns-clause-shortest c = ipv4_shortest

pub returns-clause-longest : goal.returns-clause-longest
returns-clause-longest c = ipv4_longest
