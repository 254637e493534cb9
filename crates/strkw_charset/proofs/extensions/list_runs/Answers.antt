use Rattle.std.proofs.Common.{refl}
use Rattle.ucd_table.proofs.RunsLemmas.{IsRunsOf-Stepped}
use Rattle.ucd_table.proofs.Computing.{tables}
use Rattle.ucd_script.specs.ScriptExtensionRows.{script_extension_rows}
use Rattle.strkw_charset.specs.machine.ScriptLists.{place_in, with_lists, lists}
use Rattle.strkw_charset.proofs.ScriptLists.{list_number_stepped}
use Rattle.strkw_charset.proofs.extensions.list_runs.Goals as goal

pub returns : goal.returns
unfolding tables list_number_stepped script_extension_rows lists with_lists place_in
returns c = IsRunsOf-Stepped _ _ list_number_stepped refl
