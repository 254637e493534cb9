use Rattle.strkw_mail.proofs.AsWritten.{qtext_smtp, escaped}
use Rattle.strkw_mail.proofs.laws.characters_between_quotes.Goals as goal

pub returns-clause-qtext_smtp : goal.returns-clause-qtext_smtp
returns-clause-qtext_smtp c = qtext_smtp

pub returns-clause-escaped : goal.returns-clause-escaped
returns-clause-escaped c = escaped
