use Rattle.strkw_keywords.proofs.Folding.{others_accept_some_text}
use Rattle.strkw_keywords.proofs.laws.other_objects_accept_some_text.Goals as goal

pub returns : goal.returns
returns c = others_accept_some_text
