use Rattle.strkw_formats.proofs.BuiltinNames.{found_by_name}
use Rattle.strkw_formats.proofs.laws.builtin_format_of_name.Goals as goal

pub returns : goal.returns
returns c = found_by_name
