use Rattle.strkw_regex_core.proofs.Shapes.{outlined-Repeated, is_no_copy}
use Rattle.strkw_regex_core.proofs.counted_regex.CountedRegex.is_nothing.Goals as goal

pub returns-in-Exactly : goal.returns-in-Exactly
returns-in-Exactly c =
    rw (c.in-Repeated.is, outlined-Repeated c.in-Repeated.quantifier c.in-Repeated.field-1, c.in-Exactly.is)
    (is_no_copy c.in-Exactly.count _)
