use Rattle.ucd_sets.specs.Names.{script_names}
use Rattle.strkw_charset.specs.Properties.{script_value_named}
use Rattle.strkw_charset.proofs.properties.script_named.Goals as goal

pub returns : goal.returns
unfolding script_names script_value_named
returns c = c.value_named.ensures
