use Rattle.strkw_uri.proofs.Examples.{example_template}
use Rattle.strkw_uri.proofs.laws.example_uri_template.Goals as goal

pub returns : goal.returns
returns c = example_template
