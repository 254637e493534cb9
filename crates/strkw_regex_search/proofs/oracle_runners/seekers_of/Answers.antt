use Rattle.std.proofs.Common.{◌∷◌, ◌++◌, [], sym, ap, subst, ◌∙◌, append-nil}
use Rattle.std.specs.Vec.Iter.{into_iter_items}
use Rattle.std.proofs.lemmas.List.{append_assoc, nil_from_length}
use Rattle.strkw_regex_search.specs.machine.OracleRunners.{AreFit, seeking_of, seekings, quests}
use Rattle.strkw_regex_search.proofs.PassParts.{one_taken}
use Rattle.strkw_regex_search.proofs.OracleCode.{seekings_append}
use Rattle.strkw_regex_search.proofs.oracle_runners.seekers_of.Goals as goal

pub of-requires : goal.of-requires
of-requires c = (subst AreFit c.in-Some.ensures.steps.0 c.loop-aside.invariant.fit).0

pub loop-aside-preserved : goal.loop-aside-preserved
loop-aside-preserved c =
    let rest = into_iter_items c.next.new.self in
    let made = seekings c.loop-aside.seekers.items in
    let step = c.in-Some.ensures.steps in
    record {
      made = ap (λ l. seekings l ++ quests rest) c.in_ok-push.ensures.items
          ∙ ap (λ l. l ++ quests rest) (seekings_append c.loop-aside.seekers.items _)
          ∙ append_assoc made (seeking_of c.in_ok-seeker.seeker ∷ []) (quests rest)
          ∙ ap (λ q. made ++ (q ∷ quests rest)) c.in_ok-seeker.ensures
          ∙ ap (λ l. made ++ quests l) (sym step.0) ∙ c.loop-aside.invariant.made;
      fit = (subst AreFit step.0 c.loop-aside.invariant.fit).1;
      count = one_taken step.0 step.1 c.loop-aside.invariant.count;
    }

pub returns : goal.returns
returns c =
    let made = seekings c.loop-aside.seekers.items in
    let none = nil_from_length _ (sym c.loop-aside.invariant.count ∙ c.in-None.ensures.steps.0) in
    sym (append-nil made) ∙ ap (λ l. made ++ quests l) (sym none) ∙ c.loop-aside.invariant.made
