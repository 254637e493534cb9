use Rattle.strkw_uri.proofs.AsWritten.{ucschar, iprivate}
use Rattle.strkw_uri.proofs.laws.ranges_of_iris.Goals as goal

pub returns-clause-ucschar : goal.returns-clause-ucschar
returns-clause-ucschar c = ucschar

pub returns-clause-iprivate : goal.returns-clause-iprivate
returns-clause-iprivate c = iprivate
