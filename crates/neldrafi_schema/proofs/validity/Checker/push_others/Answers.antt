use Rattle.std.proofs.Common.{ℕ, List, [], ◌∷◌, ◌++◌, ◌∙◌, ap, string_bytes, rules, refl, Some, ◌≡◌}
use Rattle.std.specs.Prelude.{not}
use Rattle.std.specs.List.{list_any}
use Rattle.serde_json.specs.Data.{Data}
use Rattle.serde_json.specs.View.{members_view, view}
use Rattle.neldrafi_schema.specs.Paths.{key}
use Rattle.neldrafi_schema.specs.Rules.{leads_to, member_list, target}
use Rattle.neldrafi_schema.specs.machine.Compiled.{branch_of, keywords_of, targets_of}
use Rattle.serde_json.specs.Find.{as_object}
use Rattle.neldrafi_schema.proofs.Items.{object_members}
use Rattle.neldrafi_schema.proofs.Filtered.{kept_one, left_one, none_left}
use Rattle.neldrafi_schema.proofs.validity.Checker.push_others.Goals as goal

pub loop-name-preserved-in_ok-push_member : goal.loop-name-preserved-in_ok-push_member
loop-name-preserved-in_ok-push_member g c = λ lists tests.
    let beside = keywords_of g.E.RegexEngine.outcome c.args.beside.now in
    let b = branch_of c.args.branch.now in
    let v = view c.in-Some-2.value.now in
    kept_one (λ (m : List ℕ × Data). target b m.1 (key m.0 ∷ [])) (λ m. not (list_any (leads_to m.0) beside))
    (string_bytes c.in-Some-2.name.now, v) (member_list (members_view c.next.new.self)) _ _ _ (member_list (members_view c.loop-name.name-iterator))
    (not c.in_ok-is_led_to.field-0) (ap (λ es. member_list (members_view es)) c.in-Some-2.ensures.steps)
    (ap not (c.in_ok-is_led_to.ensures lists tests ∙ ap (λ n. list_any (leads_to n) beside) c.as_str.ensures.value))
    (ap not c.if-not-branch.true)
    (c.in_ok-push_member.ensures ∙ ap (λ n. targets_of c.loop-name.targets.items ++ target b v (key n ∷ []) ∷ []) c.as_str-then-not-branch.ensures.value)
    (c.loop-name.invariant lists tests)

pub loop-name-preserved : goal.loop-name-preserved
loop-name-preserved g c = λ lists tests.
    let beside = keywords_of g.E.RegexEngine.outcome c.args.beside.now in
    left_one (λ (m : List ℕ × Data). target (branch_of c.args.branch.now) m.1 (key m.0 ∷ [])) (λ m. not (list_any (leads_to m.0) beside))
    (string_bytes c.in-Some-2.name.now, view c.in-Some-2.value.now) (member_list (members_view c.next.new.self)) _ _ (member_list (members_view c.loop-name.name-iterator))
    (not c.in_ok-is_led_to.field-0) (ap (λ es. member_list (members_view es)) c.in-Some-2.ensures.steps)
    (ap not (c.in_ok-is_led_to.ensures lists tests ∙ ap (λ n. list_any (leads_to n) beside) c.as_str.ensures.value))
    (ap not c.if-not-branch.false)
    (c.loop-name.invariant lists tests)

pub returns : goal.returns
returns g c = λ lists tests.
    none_left (λ (m : List ℕ × Data). target (branch_of c.args.branch.now) m.1 (key m.0 ∷ [])) (λ m. not (list_any (leads_to m.0) (keywords_of g.E.RegexEngine.outcome c.args.beside.now)))
    _ _ (member_list (members_view c.loop-name.name-iterator)) (ap (λ es. member_list (members_view es)) c.in-None.ensures.steps.0) (c.loop-name.invariant lists tests)

pub loop-name-init : goal.loop-name-init
loop-name-init g c =
    let d = view c.args.instance.now in
    let all = c.in-Some.members.now.entries in
    let same : c.into_iter-name-iterator.result ≡ all = search rules in
    let found : as_object d ≡ Some (members_view all) = search rules in
    λ lists tests. rw (same, object_members d (members_view all) found) refl
