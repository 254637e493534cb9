use Rattle.strkw_mail.proofs.Examples.{example, shortest, longest}
use Rattle.strkw_mail.proofs.laws.mailbox_texts.Goals as goal

pub returns-clause-example : goal.returns-clause-example
returns-clause-example c = example

pub returns-clause-shortest : goal.returns-clause-shortest
returns-clause-shortest c = shortest

pub returns-clause-longest : goal.returns-clause-longest
returns-clause-longest c = longest
