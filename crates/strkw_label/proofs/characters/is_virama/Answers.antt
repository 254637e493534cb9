use Rattle.strkw_label.specs.LabelRules.{is_virama}
use Rattle.strkw_label.proofs.characters.is_virama.Goals as goal

pub returns : goal.returns
unfolding is_virama
returns c = c.contains.ensures.value
