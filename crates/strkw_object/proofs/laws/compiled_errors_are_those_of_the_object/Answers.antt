use Rattle.strkw_object.proofs.Meaning.{compiled_errors}
use Rattle.strkw_object.proofs.laws.compiled_errors_are_those_of_the_object.Goals as goal

pub returns : goal.returns
returns g c = λ s ms k lists site node rs. compiled_errors g.E.RegexEngine.outcome s ms k lists site node rs
