use Rattle.std.proofs.Common.{ℕ, List, ◌∙◌, ap, false, refl, string_bytes}
use Rattle.std.specs.Prelude.{not}
use Rattle.std.specs.List.{list_any}
use Rattle.serde_json.specs.Data.{Data}
use Rattle.serde_json.specs.View.{members_view, view}
use Rattle.neldrafi_schema.specs.Rules.{leads_to, member_list, other_members_in}
use Rattle.neldrafi_schema.specs.machine.Compiled.{keywords_of}
use Rattle.neldrafi_schema.proofs.Choosing.{none_is_kept, none_kept_yet, one_is_kept}
use Rattle.neldrafi_schema.proofs.Visited.{holds, refutes}
use Rattle.neldrafi_schema.proofs.validity.Checker.leads_to_all.Goals as goal

pub returns-then-not-branch : goal.returns-then-not-branch
returns-then-not-branch g c = λ lists tests.
    let beside = keywords_of g.E.RegexEngine.outcome c.args.beside.now in
    refutes _ false refl (λ none. absurd (one_is_kept (λ (m : List ℕ × Data). not (list_any (leads_to m.0) beside)) (string_bytes c.in-Some-2.key.now, _)
    (member_list (members_view c.next.new.self)) (member_list (members_view c.loop-key.key-iterator)) (other_members_in beside (view c.args.instance.now))
    (not c.in_ok-is_led_to.field-0) (c.loop-key.invariant lists tests) (ap (λ es. member_list (members_view es)) c.in-Some-2.ensures.steps)
    (ap not (c.in_ok-is_led_to.ensures lists tests ∙ ap (λ n. list_any (leads_to n) beside) c.as_str.ensures.value)) (ap not c.if-not-branch.true) none))

pub loop-key-preserved : goal.loop-key-preserved
loop-key-preserved g c = λ lists tests.
    let beside = keywords_of g.E.RegexEngine.outcome c.args.beside.now in
    none_kept_yet (λ (m : List ℕ × Data). not (list_any (leads_to m.0) beside)) (string_bytes c.in-Some-2.key.now, _)
    (member_list (members_view c.next.new.self)) (member_list (members_view c.loop-key.key-iterator)) (other_members_in beside (view c.args.instance.now))
    (not c.in_ok-is_led_to.field-0) (c.loop-key.invariant lists tests) (ap (λ es. member_list (members_view es)) c.in-Some-2.ensures.steps)
    (ap not (c.in_ok-is_led_to.ensures lists tests ∙ ap (λ n. list_any (leads_to n) beside) c.as_str.ensures.value)) (ap not c.if-not-branch.false)

pub returns : goal.returns
returns g c = λ lists tests.
    let beside = keywords_of g.E.RegexEngine.outcome c.args.beside.now in
    holds _ _ refl (none_is_kept (λ (m : List ℕ × Data). not (list_any (leads_to m.0) beside)) (member_list (members_view c.loop-key.key-iterator))
    (other_members_in beside (view c.args.instance.now)) (c.loop-key.invariant lists tests) (ap (λ es. member_list (members_view es)) c.in-None.ensures.steps.0))
