use Rattle.strkw_keywords.proofs.Entries.{AreEntries-unique}
use Rattle.strkw_keywords.proofs.laws.entries_are_determined.Goals as goal

pub returns : goal.returns
returns c = AreEntries-unique
