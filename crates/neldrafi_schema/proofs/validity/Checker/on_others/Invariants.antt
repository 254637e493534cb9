use Rattle.std.proofs.Common.{◌≡◌, ◌++◌, drop}
use Rattle.std.specs.List.{flat_map}
use Rattle.serde_json.specs.View.{view}
use Rattle.strkw_keywords.specs.Meanings.{Lists}
use Rattle.neldrafi_schema.specs.Rules.{on_members, other_members_in}
use Rattle.neldrafi_schema.specs.machine.Closures.{Tests}
use Rattle.neldrafi_schema.specs.machine.Compiled.{branches_of, keywords_of, targets_of}
use Rattle.neldrafi_schema.proofs.validity.Checker.on_others.Given as goal

-- the targets so far, and those that are left
abbrev pub invariant-loop-branch : goal.invariant-loop-branch
invariant-loop-branch g l = (lists : Lists) → Tests g.T.Fn l.self.text_accepts.now g.E.RegexEngine.outcome lists
    → targets_of l.targets.items
    ++ flat_map (on_members (other_members_in (keywords_of g.E.RegexEngine.outcome l.beside) (view l.instance))) (branches_of (drop l.branch-index l.branches))
    ≡ flat_map (on_members (other_members_in (keywords_of g.E.RegexEngine.outcome l.beside) (view l.instance))) (branches_of l.branches)
