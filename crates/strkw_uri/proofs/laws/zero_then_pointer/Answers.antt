use Rattle.strkw_uri.proofs.Pointers.{zero_then_pointer}
use Rattle.strkw_uri.proofs.laws.zero_then_pointer.Goals as goal

pub returns : goal.returns
returns c = zero_then_pointer
