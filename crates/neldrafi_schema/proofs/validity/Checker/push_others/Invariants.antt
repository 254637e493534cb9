use Rattle.std.proofs.Common.{◌≡◌, ◌++◌}
use Rattle.std.specs.Prelude.{not}
use Rattle.std.specs.List.{filter, list_any}
use Rattle.serde_json.specs.View.{members_view, view}
use Rattle.strkw_keywords.specs.Meanings.{Lists}
use Rattle.neldrafi_schema.specs.Rules.{leads_to, member_list, on_members, other_members_in}
use Rattle.neldrafi_schema.specs.machine.Closures.{Tests}
use Rattle.neldrafi_schema.specs.machine.Compiled.{branch_of, keywords_of, targets_of}
use Rattle.neldrafi_schema.proofs.validity.Checker.push_others.Given as goal

-- the targets so far, and those of the members that are left
abbrev pub invariant-loop-name : goal.invariant-loop-name
invariant-loop-name g l = (lists : Lists) → Tests g.T.Fn l.self.text_accepts.now g.E.RegexEngine.outcome lists
    → targets_of l.targets.items
    ++ on_members (filter (λ m. not (list_any (leads_to m.0) (keywords_of g.E.RegexEngine.outcome l.beside))) (member_list (members_view l.name-iterator))) (branch_of l.branch)
    ≡ targets_of l.fn.targets.items ++ on_members (other_members_in (keywords_of g.E.RegexEngine.outcome l.beside) (view l.instance)) (branch_of l.branch)
