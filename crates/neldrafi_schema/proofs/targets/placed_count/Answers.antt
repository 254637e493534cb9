use Rattle.std.proofs.Common.{◌∙◌, ◌+◌, ap, drop, sym}
use Rattle.std.specs.Prelude.{unwrap_or}
use Rattle.neldrafi_schema.specs.Rules.{placed_count}
use Rattle.neldrafi_schema.specs.machine.Compiled.{keywords_of}
use Rattle.neldrafi_schema.proofs.Lists.{drop_one, drop_past}
use Rattle.neldrafi_schema.proofs.targets.placed_count.Goals as goal

pub loop-keyword-preserved : goal.loop-keyword-preserved
loop-keyword-preserved g c = λ outcome.
    let rest = placed_count (keywords_of outcome (drop (c.loop-keyword.keyword-index + 1) c.args.beside.now)) in
    c.loop-keyword.invariant outcome
    ∙ ap (λ ks. placed_count (keywords_of outcome ks)) (drop_one c.args.beside.now c.loop-keyword.keyword-index c.keyword-item.result c.loop-keyword-test.true c.keyword-item.is)
    ∙ c.placed_by.ensures outcome _ ∙ ap (λ o. unwrap_or o rest) c.in_default.is

pub returns-in-Some : goal.returns-in-Some
returns-in-Some g c = λ outcome.
    let rest = placed_count (keywords_of outcome (drop (c.loop-keyword.keyword-index + 1) c.args.beside.now)) in
    sym (c.loop-keyword.invariant outcome
    ∙ ap (λ ks. placed_count (keywords_of outcome ks)) (drop_one c.args.beside.now c.loop-keyword.keyword-index c.keyword-item.result c.loop-keyword-test.true c.keyword-item.is)
    ∙ c.placed_by.ensures outcome _ ∙ ap (λ o. unwrap_or o rest) c.in-Some.is)

pub returns : goal.returns
returns g c = λ outcome. sym (c.loop-keyword.invariant outcome
    ∙ ap (λ ks. placed_count (keywords_of outcome ks)) (drop_past c.args.beside.now c.loop-keyword.keyword-index c.loop-keyword-test.false))
