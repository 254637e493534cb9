use Rattle.std.proofs.Common.{[], ◌∷◌, ◌++◌, List, length, sym, ap, subst, ◌∙◌, append-nil}
use Rattle.std.specs.Vec.Iter.{into_iter_items}
use Rattle.std.proofs.lemmas.List.{append_assoc, nil_from_length}
use Rattle.strkw_regex_core.specs.machine.LeadingLookahead.{Part}
use Rattle.strkw_regex_core.specs.machine.Fronts.{part_view, parts_view}
use Rattle.strkw_regex_search.specs.machine.Passes.{Pass, ArePasses, passes_of, pass_of}
use Rattle.strkw_regex_search.proofs.PassParts.{one_taken}
use Rattle.strkw_regex_search.proofs.PassParts.{passes_append, are_passes_append}
use Rattle.strkw_regex_search.proofs.passes.with_fronts.Goals as goal

pub loop-front-init : goal.loop-front-init
loop-front-init c =
    let gives = c.into_iter-front-iterator.ensures.into_iter_gives in
    record {
      made = λ old u. ([], subst (ArePasses (passes_of c.args.passes.items)) (sym (append-nil old)) u, ap parts_view gives.0);
      count = gives.1 ∙ c.args.fronts.ok.0 ∙ ap length (sym gives.0);
    }

pub loop-front-preserved : goal.loop-front-preserved
loop-front-preserved c =
    let rest = into_iter_items c.next.new.self in
    let step = c.in-Some.ensures.steps in
    let front = c.in-Some.front in
    record {
      made = λ old u. let before = c.loop-front.invariant.made old u in (
        before.0 ++ part_view front ∷ [],
        subst (λ (l : List Pass). ArePasses l (old ++ (before.0 ++ part_view front ∷ [])))
            (sym (ap passes_of c.in_ok-push.ensures.items ∙ passes_append c.loop-front.passes.items (c.in_ok-pass.pass ∷ [])))
            (subst (ArePasses (passes_of c.loop-front.passes.items ++ pass_of c.in_ok-pass.pass ∷ []))
            (append_assoc old before.0 (part_view front ∷ []))
            (are_passes_append _ _ _ _ before.1 (c.in_ok-pass.ensures, tt))),
        append_assoc before.0 (part_view front ∷ []) (parts_view rest) ∙ ap (λ l. before.0 ++ parts_view l) (sym step.0) ∙ before.2,
      );
      count = one_taken step.0 step.1 c.loop-front.invariant.count;
    }

pub returns : goal.returns
returns c = λ old u.
    let all = c.loop-front.invariant.made old u in
    let none = nil_from_length _ (sym c.loop-front.invariant.count ∙ c.in-None.ensures.steps.0) in
    subst (λ (l : List Part). ArePasses (passes_of c.loop-front.passes.items) (old ++ l))
    (sym (append-nil all.0) ∙ ap (λ l. all.0 ++ parts_view l) (sym none) ∙ all.2) all.1
