use Rattle.strkw_uri.proofs.AsWritten.{unescaped}
use Rattle.strkw_uri.proofs.laws.unescaped_of_pointers.Goals as goal

pub returns : goal.returns
returns c = unescaped
