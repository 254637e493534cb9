use Rattle.strkw_object.proofs.Folding.{folded_replaced}
use Rattle.strkw_object.proofs.laws.folded_objects_may_be_replaced.Goals as goal

pub returns : goal.returns
returns c = folded_replaced c.folded_objects_refuse_texts.ensures
