use Rattle.strkw_uri.proofs.AsWritten.{unreserved, sub_delims, reserved}
use Rattle.strkw_uri.proofs.laws.unreserved_and_delimiters.Goals as goal

pub returns-clause-unreserved : goal.returns-clause-unreserved
returns-clause-unreserved c = unreserved

pub returns-clause-sub_delims : goal.returns-clause-sub_delims
returns-clause-sub_delims c = sub_delims

pub returns-clause-reserved : goal.returns-clause-reserved
returns-clause-reserved c = reserved
