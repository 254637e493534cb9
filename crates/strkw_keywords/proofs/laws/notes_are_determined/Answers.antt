use Rattle.strkw_keywords.proofs.Entries.{Notes-unique}
use Rattle.strkw_keywords.proofs.laws.notes_are_determined.Goals as goal

pub returns : goal.returns
returns c = Notes-unique
