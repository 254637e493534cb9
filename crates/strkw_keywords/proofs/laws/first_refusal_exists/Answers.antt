use Rattle.strkw_keywords.proofs.Entries.{first_refusal_exists}
use Rattle.strkw_keywords.proofs.laws.first_refusal_exists.Goals as goal

pub returns : goal.returns
returns c = first_refusal_exists
