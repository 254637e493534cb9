use Rattle.std.proofs.Common.{◌∙◌, ◌∷◌, [], ap, Some}
use Rattle.neldrafi_schema.specs.Paths.{key}
use Rattle.neldrafi_schema.proofs.reading.Reader.read_text.Goals as goal

pub returns-in-None-clause-says : goal.returns-in-None-clause-says
returns-in-None-clause-says g c = rw c.in-None.is at (c.in_ok-compiled_member.ensures.says (key c.args.member.now.name.now ∷ []))

pub returns-in-Some-Ok-clause-says : goal.returns-in-Some-Ok-clause-says
returns-in-Some-Ok-clause-says g c =
    rw (c.in-Some-Ok.is ∙ ap Some c.in-Some-Ok.field-0-is) at (c.in_ok-compiled_member.ensures.says (key c.args.member.now.name.now ∷ []))

pub returns-in-Some-Err-clause-says : goal.returns-in-Some-Err-clause-says
returns-in-Some-Err-clause-says g c =
    rw (c.in-Some-Err.is ∙ ap Some c.in-Some-Err.field-0-is) at (c.in_ok-compiled_member.ensures.says (key c.args.member.now.name.now ∷ []))
