use Rattle.strkw_mail.proofs.Windows.{mailbox_window}
use Rattle.strkw_mail.proofs.laws.mailbox_length.Goals as goal

pub returns-clause-at_least : goal.returns-clause-at_least
returns-clause-at_least c = λ text h. (mailbox_window text h).0

pub returns-clause-at_most : goal.returns-clause-at_most
returns-clause-at_most c = λ text h. (mailbox_window text h).1
