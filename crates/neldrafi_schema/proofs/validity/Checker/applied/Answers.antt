use Rattle.std.proofs.Common.{◌∙◌, ap, drop}
use Rattle.std.proofs.lemmas.Result.{IfOk-weaker}
use Rattle.std.specs.List.{flat_map}
use Rattle.serde_json.specs.View.{view}
use Rattle.neldrafi_schema.specs.Rules.{on_items, placed_count, placed_items}
use Rattle.neldrafi_schema.specs.machine.Compiled.{branches_of, keywords_of}
use Rattle.neldrafi_schema.proofs.validity.Checker.applied.Goals as goal

pub returns-in-OtherItems : goal.returns-in-OtherItems
returns-in-OtherItems g c = λ lists tests. IfOk-weaker c.on_items.result _ _
    (λ found e. rw c.in-OtherItems.is
    (e ∙ ap (λ n. flat_map (on_items (drop n (placed_items (view c.args.instance.now)))) (branches_of c.as_slice-branches.result.now)) (c.placed_count.ensures g.E.RegexEngine.outcome)
    ∙ ap (λ bs. flat_map (on_items (drop (placed_count (keywords_of g.E.RegexEngine.outcome c.args.beside.now)) (placed_items (view c.args.instance.now)))) (branches_of bs))
    c.as_slice-branches.ensures.value))
    c.on_items.ensures

pub returns-in-Matching : goal.returns-in-Matching
returns-in-Matching g c = λ lists tests. IfOk-weaker c.on_matched.result _ _
    (λ found e. rw (c.in-Matching.is, ← c.deref.ensures.value, ← c.as_slice-branches.ensures.value) e) (c.on_matched.ensures lists tests)

pub returns-in-OtherMembers : goal.returns-in-OtherMembers
returns-in-OtherMembers g c = λ lists tests. IfOk-weaker c.on_others.result _ _ (λ found e. rw (c.in-OtherMembers.is, ← c.as_slice-branches.ensures.value) e)
    (c.on_others.ensures lists tests)
