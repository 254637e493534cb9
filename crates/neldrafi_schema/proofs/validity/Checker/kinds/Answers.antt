use Rattle.std.proofs.Common.{◌∙◌, ap, drop, map}
use Rattle.std.proofs.lemmas.Result.{IfOk-weaker}
use Rattle.serde_json.specs.View.{view}
use Rattle.neldrafi_schema.specs.Errors.{unexpected_items}
use Rattle.neldrafi_schema.specs.Rules.{none_allowed, placed_items}
use Rattle.neldrafi_schema.proofs.validity.Checker.kinds.Goals as goal

pub returns-in-NoOtherItems : goal.returns-in-NoOtherItems
returns-in-NoOtherItems g c = λ lists tests. IfOk-weaker c.unexpected_items.result _ _
    (λ found e. rw c.in-NoOtherItems.is
    (e ∙ ap (λ n. none_allowed unexpected_items (map (λ i. i.1) (drop n (placed_items (view c.args.instance.now))))) (c.placed_count.ensures g.E.RegexEngine.outcome)))
    c.unexpected_items.ensures

pub returns-in-NoOtherMembers : goal.returns-in-NoOtherMembers
returns-in-NoOtherMembers g c = λ lists tests. IfOk-weaker c.unexpected_members.result _ _ (λ found e. rw c.in-NoOtherMembers.is e) (c.unexpected_members.ensures lists tests)
