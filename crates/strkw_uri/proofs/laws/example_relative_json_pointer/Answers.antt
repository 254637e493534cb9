use Rattle.strkw_uri.proofs.Examples.{example_relative_pointer}
use Rattle.strkw_uri.proofs.laws.example_relative_json_pointer.Goals as goal

pub returns : goal.returns
returns c = example_relative_pointer
