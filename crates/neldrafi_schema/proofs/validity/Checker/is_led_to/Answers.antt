use Rattle.std.proofs.Common.{arith, ◌∙◌, ap, sym}
use Rattle.std.proofs.lemmas.Grind.{common_steps}
use Rattle.std.specs.List.{list_any}
use Rattle.neldrafi_schema.specs.Rules.{leads_to}
use Rattle.neldrafi_schema.specs.machine.Compiled.{keywords_of}
use Rattle.neldrafi_schema.proofs.Lists.{drop_past}
use Rattle.neldrafi_schema.proofs.validity.Checker.is_led_to.Goals as goal

pub returns-then-branch : goal.returns-then-branch
returns-then-branch g c = λ lists tests. grind (arith, common_steps, c.loop-keyword.invariant lists tests, c.in_ok-leads_to.ensures lists tests)

pub loop-keyword-preserved : goal.loop-keyword-preserved
loop-keyword-preserved g c = λ lists tests. grind (arith, common_steps, c.loop-keyword.invariant lists tests, c.in_ok-leads_to.ensures lists tests)

pub returns : goal.returns
returns g c = λ lists tests. sym (c.loop-keyword.invariant lists tests
    ∙ ap (λ ks. list_any (leads_to c.args.name.now) (keywords_of g.E.RegexEngine.outcome ks)) (drop_past c.args.beside.now c.loop-keyword.keyword-index c.loop-keyword-test.false))
