use Rattle.std.proofs.lemmas.Result.{IfOk-weaker}
use Rattle.neldrafi_schema.proofs.Patterns.{pattern_verdict}
use Rattle.neldrafi_schema.proofs.validity.Checker.matches.Goals as goal

pub returns : goal.returns
returns g c = λ lists tests. IfOk-weaker c.text_accepts.result _ _
    (λ b says. pattern_verdict g.E.RegexEngine.outcome lists c.args.pattern.now c.args.name.now b c.requires.1 says) (tests _ _ _ c.text_accepts.ensures)
