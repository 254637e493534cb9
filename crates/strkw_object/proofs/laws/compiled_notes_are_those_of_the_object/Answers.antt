use Rattle.strkw_object.proofs.Meaning.{compiled_notes}
use Rattle.strkw_object.proofs.laws.compiled_notes_are_those_of_the_object.Goals as goal

pub returns : goal.returns
returns g c = λ s ms k node remarks. compiled_notes g.E.RegexEngine.outcome s ms k node remarks
