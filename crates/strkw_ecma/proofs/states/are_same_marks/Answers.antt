use Rattle.std.proofs.Common.{sym, ◌∙◌}
use Rattle.strkw_regex_search.proofs.Marked.{same_list}
use Rattle.strkw_ecma.proofs.states.are_same_marks.Goals as goal

pub returns : goal.returns
returns c h = same_list _ _ (sym c.eq.ensures ∙ h)
