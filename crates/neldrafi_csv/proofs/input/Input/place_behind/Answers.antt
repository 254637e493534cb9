use Rattle.std.proofs.Common.{ap, take, subst, ◌∙◌}
use Rattle.neldrafi_csv.specs.Lines.{place_after}
use Rattle.neldrafi_csv.proofs.InputLemmas.{buffer-front, refused-place}
use Rattle.neldrafi_csv.proofs.input.Input.place_behind.Goals as goal

pub returns-clause-fails : goal.returns-clause-fails
returns-clause-fails g c text e =
    refused-place c.args.self.now.place text _ _ (take c.args.count c.bytes.result.now) c.behind.result _
    ((buffer-front c.args.self.now.buffer _ text c.args.count e c.requires).0)
    (ap (take c.args.count) c.bytes.ensures) c.behind.ensures.none c.ok_or.ensures.value
