use Rattle.strkw_keywords.proofs.Intervals.{inside_common}
use Rattle.strkw_keywords.proofs.laws.common_windows_are_in_both.Goals as goal

pub returns : goal.returns
returns c = inside_common
