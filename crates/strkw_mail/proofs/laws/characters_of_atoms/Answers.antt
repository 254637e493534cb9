use Rattle.strkw_mail.proofs.AsWritten.{atext}
use Rattle.strkw_mail.proofs.laws.characters_of_atoms.Goals as goal

pub returns : goal.returns
returns c = atext
