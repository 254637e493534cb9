use Rattle.neldrafi_infer.proofs.LawLemmas.{all_proposed}
use Rattle.neldrafi_infer.proofs.laws.values_have_proposed_types.Goals as goal

pub returns : goal.returns
returns c ss none = all_proposed ss none
