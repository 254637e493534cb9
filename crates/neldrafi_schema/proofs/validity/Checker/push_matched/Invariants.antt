use Rattle.std.proofs.Common.{◌≡◌, ◌++◌}
use Rattle.std.specs.List.{filter}
use Rattle.serde_json.specs.View.{members_view, view}
use Rattle.strkw_keywords.specs.Meanings.{Lists}
use Rattle.strkw_keywords.specs.Validators.{assertions_of}
use Rattle.neldrafi_schema.specs.Rules.{is_matched, member_list, members_in, on_members}
use Rattle.neldrafi_schema.specs.machine.Closures.{Tests}
use Rattle.neldrafi_schema.specs.machine.Compiled.{branch_of, targets_of}
use Rattle.neldrafi_schema.proofs.validity.Checker.push_matched.Given as goal

-- the targets so far, and those of the members that are left
abbrev pub invariant-loop-name : goal.invariant-loop-name
invariant-loop-name g l = (lists : Lists) → Tests g.T.Fn l.self.text_accepts.now g.E.RegexEngine.outcome lists
    → targets_of l.targets.items
    ++ on_members (filter (λ m. is_matched m.0 (assertions_of g.E.RegexEngine.outcome l.pattern)) (member_list (members_view l.name-iterator))) (branch_of l.branch)
    ≡ targets_of l.fn.targets.items
    ++ on_members (filter (λ m. is_matched m.0 (assertions_of g.E.RegexEngine.outcome l.pattern)) (members_in (view l.instance))) (branch_of l.branch)
