use Rattle.strkw_coding.proofs.EncodesOnce.{once}
use Rattle.strkw_coding.proofs.laws.encodes_once.Goals as goal

pub returns : goal.returns
returns c = once
