use Rattle.std.proofs.Common.{◌∙◌, ◌++◌, ap, append-nil, append_assoc, drop, ◌+◌, sym}
use Rattle.std.specs.List.{flat_map}
use Rattle.serde_json.specs.View.{view}
use Rattle.neldrafi_schema.specs.Rules.{on_members, other_members_in}
use Rattle.neldrafi_schema.specs.machine.Compiled.{branch_of, branches_of, keywords_of, targets_of}
use Rattle.neldrafi_schema.proofs.Lists.{drop_one, drop_past}
use Rattle.neldrafi_schema.proofs.validity.Checker.on_others.Goals as goal

pub loop-branch-preserved : goal.loop-branch-preserved
loop-branch-preserved g c = λ lists tests.
    let f = on_members (other_members_in (keywords_of g.E.RegexEngine.outcome c.args.beside.now) (view c.args.instance.now)) in
    let old = targets_of c.loop-branch.targets.items in
    let rest = flat_map f (branches_of (drop (c.loop-branch.branch-index + 1) c.args.branches.now)) in
    ap (λ ts. ts ++ rest) (c.in_ok-push_others.ensures lists tests) ∙ append_assoc old (f (branch_of c.branch-item.result)) rest
    ∙ ap (λ bs. old ++ flat_map f (branches_of bs)) (sym (drop_one c.args.branches.now c.loop-branch.branch-index c.branch-item.result c.loop-branch-test.true c.branch-item.is))
    ∙ c.loop-branch.invariant lists tests

pub returns : goal.returns
returns g c = λ lists tests.
    let f = on_members (other_members_in (keywords_of g.E.RegexEngine.outcome c.args.beside.now) (view c.args.instance.now)) in
    let old = targets_of c.loop-branch.targets.items in
    sym (append-nil old) ∙ ap (λ bs. old ++ flat_map f (branches_of bs)) (sym (drop_past c.args.branches.now c.loop-branch.branch-index c.loop-branch-test.false))
    ∙ c.loop-branch.invariant lists tests
