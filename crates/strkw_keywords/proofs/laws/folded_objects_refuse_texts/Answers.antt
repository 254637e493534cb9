use Rattle.strkw_keywords.proofs.Folding.{folded_refuse_texts}
use Rattle.strkw_keywords.proofs.laws.folded_objects_refuse_texts.Goals as goal

pub returns : goal.returns
returns c = folded_refuse_texts c.lengths_outside_are_errors.ensures
