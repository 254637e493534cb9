use Rattle.strkw_object.proofs.Meaning.{compiled_in_use}
use Rattle.strkw_object.proofs.laws.lists_of_compile_are_in_use.Goals as goal

pub returns : goal.returns
returns g c = λ s ms k. compiled_in_use g.E.RegexEngine.outcome s ms k c.compiled_is_in_use.ensures
