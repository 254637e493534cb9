use Rattle.strkw_coding.proofs.Outcomes.{exactly}
use Rattle.strkw_coding.proofs.laws.decodes_exactly.Goals as goal

pub returns : goal.returns
returns c = exactly
