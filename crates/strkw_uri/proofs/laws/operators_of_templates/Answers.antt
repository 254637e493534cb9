use Rattle.strkw_uri.proofs.AsWritten.{operators}
use Rattle.strkw_uri.proofs.laws.operators_of_templates.Goals as goal

pub returns : goal.returns
returns c = operators
