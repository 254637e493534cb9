use Rattle.strkw_keywords.proofs.Intervals.{outside_is_an_error}
use Rattle.strkw_keywords.proofs.laws.lengths_outside_are_errors.Goals as goal

pub returns : goal.returns
returns c = outside_is_an_error c.texts_are_inside_their_windows.ensures
