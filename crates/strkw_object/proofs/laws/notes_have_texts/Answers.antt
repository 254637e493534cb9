use Rattle.strkw_object.proofs.Printable.{notes_printable}
use Rattle.strkw_object.proofs.laws.notes_have_texts.Goals as goal

pub returns : goal.returns
returns c = notes_printable
