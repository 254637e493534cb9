use Rattle.std.proofs.Common.{List, ℕ, [], Some, IfSome, arith, subst}
use Rattle.std.specs.Prelude.{IfNone}
use Rattle.std.proofs.Math.Nat.{min-le_left}
use Rattle.strkw_label.specs.IdnHostName.{StandsFor}
use Rattle.strkw_label.specs.LabelFacts.{AreFactsOf}
use Rattle.strkw_label.proofs.IdnHostNames.{NameSoFar, counted_forms, name_start, name_step, name_stop, name_end}
use Rattle.strkw_label.proofs.idn_host_name.is_idn_host_name.Goals as goal

pub loop-left-init : goal.loop-left-init
loop-left-init c =
    let few = min-le_left 255 (counted_forms []) in
    name_start c.args.text c.nothing-facts.result c.requires c.nothing-facts.ensures (omega (arith, c.nothing-facts.ensures.encoded_length, few))

pub returns-in_default-2 : goal.returns-in_default-2
returns-in_default-2 c =
    let label = c.split_label.result.0.now in
    let so_far : NameSoFar c.args.text.now (Some c.in-Some.rest) c.loop-left.facts =
    subst (λ o. NameSoFar c.args.text.now o c.loop-left.facts) c.in-Some.is c.loop-left.invariant in
    name_stop c.args.text.now c.in-Some.rest label c.split_label.result.1 c.loop-left.facts so_far c.split_label.ensures.parts
    (subst (λ o. IfNone o ((form : List ℕ) → StandsFor label form → ⊥)) c.in_default-2.is c.in_ok-more.ensures.none)

pub loop-left-preserved : goal.loop-left-preserved
loop-left-preserved c =
    let label = c.split_label.result.0.now in
    let so_far : NameSoFar c.args.text.now (Some c.in-Some.rest) c.loop-left.facts =
    subst (λ o. NameSoFar c.args.text.now o c.loop-left.facts) c.in-Some.is c.loop-left.invariant in
    let one = subst (λ o. IfSome o (λ facts. (form : List ℕ) × StandsFor label form × AreFactsOf facts form)) c.in-Some-2.is c.in_ok-more.ensures.some in
    name_step c.args.text.now c.in-Some.rest label c.split_label.result.1 c.loop-left.facts c.and-facts.result c.in-Some-2.more so_far
    c.split_label.ensures.parts one c.and-facts.ensures.facts c.and-facts.ensures.capped (c.split_label.ensures.scalar so_far.scalar).1

pub returns : goal.returns
returns c =
    name_end c.args.text.now c.loop-left.facts c.make_a_name.result
    (subst (λ o. NameSoFar c.args.text.now o c.loop-left.facts) c.in_default.is c.loop-left.invariant) c.make_a_name.ensures
