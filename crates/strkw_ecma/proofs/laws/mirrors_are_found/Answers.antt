use Rattle.strkw_regex_core.proofs.PatternMirrors.{found_mirrored}
use Rattle.strkw_ecma.proofs.laws.mirrors_are_found.Goals as goal

pub returns : goal.returns
returns c p text = found_mirrored p text
