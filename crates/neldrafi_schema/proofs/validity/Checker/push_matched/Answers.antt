use Rattle.std.proofs.Common.{ℕ, List, [], ◌∷◌, ◌++◌, ◌∙◌, ap, string_bytes}
use Rattle.serde_json.specs.Data.{Data}
use Rattle.serde_json.specs.View.{members_view, view}
use Rattle.strkw_keywords.specs.Validators.{assertions_of}
use Rattle.neldrafi_schema.specs.Paths.{key}
use Rattle.neldrafi_schema.specs.Rules.{is_matched, member_list, target}
use Rattle.neldrafi_schema.specs.machine.Compiled.{branch_of, targets_of}
use Rattle.neldrafi_schema.proofs.Filtered.{kept_one}
use Rattle.neldrafi_schema.proofs.validity.Checker.push_matched.Goals as goal

pub loop-name-preserved-in-Continue-branch-2 : goal.loop-name-preserved-in-Continue-branch-2
loop-name-preserved-in-Continue-branch-2 g c = λ lists tests.
    let asserted = assertions_of g.E.RegexEngine.outcome c.args.pattern.now in
    let b = branch_of c.args.branch.now in
    let v = view c.in-Some-2.value.now in
    kept_one (λ (m : List ℕ × Data). target b m.1 (key m.0 ∷ [])) (λ m. is_matched m.0 asserted)
    (string_bytes c.in-Some-2.name.now, v) (member_list (members_view c.next.new.self)) _ _ _ (member_list (members_view c.loop-name.name-iterator))
    c.in_ok-matches.field-0 (ap (λ es. member_list (members_view es)) c.in-Some-2.ensures.steps)
    (c.in_ok-matches.ensures lists tests ∙ ap (λ n. is_matched n asserted) c.as_str.ensures.value)
    c.if-branch.true
    (c.in_ok-push_member.ensures ∙ ap (λ n. targets_of c.loop-name.targets.items ++ target b v (key n ∷ []) ∷ []) c.as_str-then-branch.ensures.value)
    (c.loop-name.invariant lists tests)
