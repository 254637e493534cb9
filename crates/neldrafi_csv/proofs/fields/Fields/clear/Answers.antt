use Rattle.std.proofs.Common.{refl}
use Rattle.neldrafi_csv.proofs.FieldLemmas.{none-taken}
use Rattle.neldrafi_csv.proofs.fields.Fields.clear.Goals as goal

pub returns-clause-taken : goal.returns-clause-taken
returns-clause-taken c delimiter bytes = none-taken delimiter bytes _ c.clear.ensures.items refl refl c.nothing-self.ensures
