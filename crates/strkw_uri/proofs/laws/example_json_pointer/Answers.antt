use Rattle.strkw_uri.proofs.Examples.{example_pointer}
use Rattle.strkw_uri.proofs.laws.example_json_pointer.Goals as goal

pub returns : goal.returns
returns c = example_pointer
