use Rattle.std.proofs.Common.{rules}
use Rattle.strkw_text.proofs.AsciiForms.{answers_by_bytes}
use Rattle.strkw_mail.specs.Mailbox.{IsMailbox}
use Rattle.strkw_mail.proofs.Ascii.{IsMailbox-ascii}
use Rattle.strkw_mail.proofs.mailbox.is_valid_email.Goals as goal

pub returns : goal.returns
returns c = answers_by_bytes IsMailbox IsMailbox-ascii c.args.text.now c.utf8.text _ (search rules)
