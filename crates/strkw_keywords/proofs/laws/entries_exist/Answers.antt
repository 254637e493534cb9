use Rattle.strkw_keywords.proofs.Entries.{entries_exist}
use Rattle.strkw_keywords.proofs.laws.entries_exist.Goals as goal

pub returns : goal.returns
returns c = entries_exist
