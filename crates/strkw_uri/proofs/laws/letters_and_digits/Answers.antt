use Rattle.strkw_uri.proofs.AsWritten.{alpha, digit, hexdig}
use Rattle.strkw_uri.proofs.laws.letters_and_digits.Goals as goal

pub returns-clause-alpha : goal.returns-clause-alpha
returns-clause-alpha c = alpha

pub returns-clause-digit : goal.returns-clause-digit
returns-clause-digit c = digit

pub returns-clause-hexdig : goal.returns-clause-hexdig
returns-clause-hexdig c = hexdig
