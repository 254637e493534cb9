use Rattle.strkw_keywords.proofs.InUse.{in_use}
use Rattle.strkw_keywords.proofs.laws.compiled_is_in_use.Goals as goal

pub returns : goal.returns
returns c = in_use
