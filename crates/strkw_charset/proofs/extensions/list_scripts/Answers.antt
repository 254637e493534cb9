use Rattle.std.proofs.Common.{refl}
use Rattle.ucd_script.specs.ScriptExtensionRows.{script_extension_rows}
use Rattle.strkw_charset.specs.machine.ScriptLists.{place_in, with_lists, lists, list_scripts}
use Rattle.strkw_charset.proofs.extensions.list_scripts.Goals as goal

pub returns : goal.returns
unfolding script_extension_rows list_scripts lists with_lists place_in
returns c = refl
