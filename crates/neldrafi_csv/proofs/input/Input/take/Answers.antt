use Rattle.std.proofs.Common.{refl}
use Rattle.neldrafi_csv.proofs.InputLemmas.{passes-front}
use Rattle.neldrafi_csv.proofs.input.Input.take.Goals as goal

pub returns-clause-passes : goal.returns-clause-passes
returns-clause-passes g c text e =
    passes-front g.R.Read.remaining c.args.self.now _ text c.args.count e c.requires c.remove.ensures refl refl c.in_ok-self.ensures.ok
