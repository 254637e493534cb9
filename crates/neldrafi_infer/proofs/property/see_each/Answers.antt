use Rattle.std.proofs.Common.{rules, ◌∷◌, ◌++◌, [], ◌<◌, ◌≢◌, length, get_or, get_or-set_other, sym, subst, ◌∙◌, arith}
use Rattle.std.proofs.lemmas.List.Elements.{AllWithin-more_set}
use Rattle.std.proofs.Math.Seq.{map-set_same}
use Rattle.neldrafi_infer.specs.Hypotheses.{seen}
use Rattle.neldrafi_infer.specs.Tallies.{IsTallied}
use Rattle.neldrafi_infer.proofs.property.see_each.Goals as goal

pub returns-in_err-see-clause-hypotheses : goal.returns-in_err-see-clause-hypotheses
returns-in_err-see-clause-hypotheses c =
    map-set_same (λ t. t.hypothesis) c.loop-tally.tallies c.loop-tally.tally-index c.see.new.self c.tally-item.result (search rules) ∙ c.loop-tally.invariant.hypotheses

pub loop-tally-preserved : goal.loop-tally-preserved
loop-tally-preserved c =
    let i = c.loop-tally.tally-index in
    let within : i < length c.loop-tally.tallies = search rules in record {
      hypotheses = map-set_same (λ t. t.hypothesis) c.loop-tally.tallies i c.see.new.self c.tally-item.result (search rules) ∙ c.loop-tally.invariant.hypotheses;
      before = λ ss all.
          let s = seen c.args.line c.args.kind c.args.text.now in
          let was = c.loop-tally.invariant.after ss all i c.tally-item.result (omega arith) within in
          let is : IsTallied (ss ++ s ∷ []) c.see.new.self = c.in_ok-see.ensures.seen ss was in
          AllWithin-more_set c.loop-tally.tallies i c.see.new.self within (IsTallied (ss ++ s ∷ [])) (c.loop-tally.invariant.before ss all) is;
      after = λ ss all k d low high.
          let other : k ≢ i = omega arith in
          let old : IsTallied ss (get_or c.loop-tally.tallies k d) = c.loop-tally.invariant.after ss all k d (omega arith) (search rules) in
          subst (IsTallied ss) (sym (get_or-set_other c.loop-tally.tallies i k c.see.new.self d other)) old;
    }
