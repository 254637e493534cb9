use Rattle.strkw_object.proofs.Meaning.{compiled_first}
use Rattle.strkw_object.proofs.laws.compiled_object_has_no_refusal.Goals as goal

pub returns : goal.returns
returns g c = λ s ms k first. compiled_first g.E.RegexEngine.outcome s ms k first
