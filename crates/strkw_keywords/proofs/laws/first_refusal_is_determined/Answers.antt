use Rattle.strkw_keywords.proofs.Entries.{FirstRefusal-unique}
use Rattle.strkw_keywords.proofs.laws.first_refusal_is_determined.Goals as goal

pub returns : goal.returns
returns c = FirstRefusal-unique
