use Rattle.strkw_uri.proofs.AsWritten.{literals, wider_literals}
use Rattle.strkw_uri.proofs.laws.literals_of_templates.Goals as goal

pub returns-clause-exact : goal.returns-clause-exact
returns-clause-exact c = literals

pub returns-clause-wider : goal.returns-clause-wider
returns-clause-wider c = wider_literals
