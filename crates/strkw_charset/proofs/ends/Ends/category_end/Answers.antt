use Rattle.std.proofs.Common.{sym, ◌∙◌, arith}
use Rattle.strkw_charset.proofs.RunEnds.{same_category}
use Rattle.strkw_charset.proofs.ends.Ends.category_end.Goals as goal

pub returns-clause-alike : goal.returns-clause-alike
returns-clause-alike c d from before small =
    same_category c.args.c d
    (sym (c.runs.ensures.values d (omega (arith, small))) ∙ c.value_end.ensures.alike d from before ∙ c.runs.ensures.values c.args.c (omega arith))
