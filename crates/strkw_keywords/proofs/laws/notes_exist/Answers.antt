use Rattle.strkw_keywords.proofs.Entries.{notes_exist}
use Rattle.strkw_keywords.proofs.laws.notes_exist.Goals as goal

pub returns : goal.returns
returns c = notes_exist
