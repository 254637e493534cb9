use Rattle.std.proofs.Common.{◌↔◌, Some, [], subst}
use Rattle.strkw_ecma.specs.machine.Engine.{engine_outcome}
use Rattle.strkw_report.specs.Standings.{root_site}
use Rattle.strkw_c.specs.Verdicts.{IsValid, Passes}
use Rattle.strkw_c.proofs.VerdictLemmas.{two_ok, verdicts_alike}
use Rattle.strkw_c.proofs.verdicts.VerdictsOnQuestion.ask.Goals as goal

pub returns : goal.returns
returns g c =
    let k = c.args.keywords.now in
    two_ok c.verdicts_on.result _ _ _ (λ made count verdicts s object same of. (
      count,
      (
        verdicts.0,
        verdicts.1,
        verdicts_alike (Passes engine_outcome k _) (IsValid s object)
            (λ text. subst (λ l. Passes engine_outcome k l text ↔ IsValid s object text) same
            (c.compiled_errors_are_those_of_the_object.ensures s object k s.lists root_site (Some text) [] of))
            verdicts.0 made.items verdicts.2,
      ),
    )) c.verdicts_on.ensures.count c.verdicts_on.ensures.verdicts
