use Rattle.strkw_net.proofs.LabelSpelling.{label_by_grammar}
use Rattle.strkw_net.proofs.laws.label_by_grammar.Goals as goal

pub returns : goal.returns
returns c = label_by_grammar
