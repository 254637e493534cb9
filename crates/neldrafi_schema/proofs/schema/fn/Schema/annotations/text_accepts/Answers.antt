use Rattle.neldrafi_schema.specs.machine.Closures.{text_in}
use Rattle.neldrafi_schema.proofs.Texts.{is_verdict}
use Rattle.neldrafi_schema.proofs.schema.fn.Schema.annotations.text_accepts.Goals as goal

pub returns : goal.returns
returns g c = is_verdict g.E.RegexEngine.outcome _ c.args.validator.now (text_in c.args.text) c.is_valid.result c.is_valid.ensures.exact
