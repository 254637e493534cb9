use Rattle.std.proofs.Common.{refl}
use Rattle.strkw_label.proofs.IdnHostNames.{facts_push}
use Rattle.strkw_label.proofs.idn_host_name.NameFacts.and.Goals as goal

pub returns-clause-facts : goal.returns-clause-facts
returns-clause-facts c = λ forms form all one. facts_push _ c.args.self c.args.label forms form c.min.ensures refl refl all one
