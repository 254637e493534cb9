use Rattle.strkw_mail.proofs.IdnMailboxes.{mailbox_is_idn}
use Rattle.strkw_mail.proofs.laws.mailbox_is_idn_mailbox.Goals as goal

pub returns : goal.returns
returns c = mailbox_is_idn
