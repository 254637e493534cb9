use Rattle.strkw_charset.specs.BinaryNames.{binary_names}
use Rattle.strkw_charset.specs.Properties.{binary_named}
use Rattle.strkw_charset.proofs.properties.binary_named.Goals as goal

pub returns : goal.returns
unfolding binary_names binary_named
returns c = c.value_named.ensures
