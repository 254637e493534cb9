use Rattle.strkw_keywords.proofs.First.{first_is_head}
use Rattle.strkw_keywords.proofs.laws.first_error_is_the_head.Goals as goal

pub returns : goal.returns
returns c = first_is_head c.encodes_once.ensures
