use Rattle.strkw_object.proofs.Meaning.{compiled_interval, compiled_folds}
use Rattle.strkw_object.proofs.laws.compiled_interval_is_that_of_the_object.Goals as goal

pub returns-clause-lengths : goal.returns-clause-lengths
returns-clause-lengths g c = λ s ms k n. compiled_interval g.E.RegexEngine.outcome s ms k c.interval_is_what_demands_leave.ensures n

pub returns-clause-empty : goal.returns-clause-empty
returns-clause-empty g c = λ s ms k. compiled_folds g.E.RegexEngine.outcome s ms k c.interval_is_what_demands_leave.ensures
