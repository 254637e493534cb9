use Rattle.ucd_sets.specs.Names.{category_names}
use Rattle.strkw_charset.specs.Properties.{category_named}
use Rattle.strkw_charset.proofs.properties.category_named.Goals as goal

pub returns : goal.returns
unfolding category_names category_named
returns c = c.value_named.ensures
