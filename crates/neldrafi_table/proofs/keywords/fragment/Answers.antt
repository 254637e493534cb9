use Rattle.neldrafi_table.proofs.KeywordLemmas.{stripped}
use Rattle.neldrafi_table.proofs.keywords.fragment.Goals as goal

pub returns : goal.returns
returns c = stripped c.args.reference.now c.strip_prefix.result c.strip_prefix.ensures.cases
