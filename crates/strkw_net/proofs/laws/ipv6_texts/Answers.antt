use Rattle.strkw_net.proofs.Examples.{ipv6_example, ipv6_shortest, ipv6_longest}
use Rattle.strkw_net.proofs.laws.ipv6_texts.Goals as goal

pub returns-clause-example : goal.returns-clause-example
returns-clause-example c = ipv6_example

pub returns-clause-shortest : goal.returns-clause-shortest
returns-clause-shortest c = ipv6_shortest

pub returns-clause-longest : goal.returns-clause-longest
returns-clause-longest c = ipv6_longest
