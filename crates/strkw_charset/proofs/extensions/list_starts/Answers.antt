use Rattle.std.proofs.Common.{refl}
use Rattle.ucd_script.specs.ScriptExtensionRows.{script_extension_rows}
use Rattle.strkw_charset.specs.machine.ScriptLists.{place_in, with_lists, lists, starts_from, list_starts}
use Rattle.strkw_charset.proofs.extensions.list_starts.Goals as goal

pub returns : goal.returns
unfolding script_extension_rows list_starts starts_from lists with_lists place_in
returns c = refl
