use Rattle.strkw_mail.proofs.AsWritten.{let_dig, ldh, dcontent}
use Rattle.strkw_mail.proofs.laws.characters_of_domains.Goals as goal

pub returns-clause-let_dig : goal.returns-clause-let_dig
returns-clause-let_dig c = let_dig

pub returns-clause-ldh : goal.returns-clause-ldh
returns-clause-ldh c = ldh

pub returns-clause-dcontent : goal.returns-clause-dcontent
returns-clause-dcontent c = dcontent
