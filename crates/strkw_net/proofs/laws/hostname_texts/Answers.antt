use Rattle.strkw_net.proofs.Examples.{hostname_example, hostname_shortest, hostname_longest}
use Rattle.strkw_net.proofs.laws.hostname_texts.Goals as goal

pub returns-clause-example : goal.returns-clause-example
returns-clause-example c = hostname_example

pub returns-clause-shortest : goal.returns-clause-shortest
returns-clause-shortest c = hostname_shortest

pub returns-clause-longest : goal.returns-clause-longest
returns-clause-longest c = hostname_longest
