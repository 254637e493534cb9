use Rattle.std.proofs.Common.{arith, map, ◌∙◌, ap, sym}
use Rattle.std.proofs.lemmas.Grind.{common_steps}
use Rattle.std.specs.List.{list_any}
use Rattle.strkw_keywords.specs.Validators.{assertions_of}
use Rattle.neldrafi_schema.specs.Rules.{is_matched}
use Rattle.neldrafi_schema.proofs.Lists.{drop_past}
use Rattle.neldrafi_schema.proofs.validity.Checker.is_matched.Goals as goal

pub returns-then-branch : goal.returns-then-branch
returns-then-branch g c = λ lists tests. grind (arith, common_steps, c.loop-pattern.invariant lists tests, c.in_ok-matches.ensures lists tests)

pub loop-pattern-preserved : goal.loop-pattern-preserved
loop-pattern-preserved g c = λ lists tests. grind (arith, common_steps, c.loop-pattern.invariant lists tests, c.in_ok-matches.ensures lists tests)

pub returns : goal.returns
returns g c = λ lists tests. sym (c.loop-pattern.invariant lists tests
    ∙ ap (λ ps. list_any (is_matched c.args.name.now) (map (assertions_of g.E.RegexEngine.outcome) ps)) (drop_past c.args.patterns.now c.loop-pattern.pattern-index c.loop-pattern-test.false))
