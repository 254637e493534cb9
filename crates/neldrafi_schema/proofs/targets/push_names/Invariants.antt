use Rattle.std.proofs.Common.{◌≡◌, ◌++◌, [], map}
use Rattle.serde_json.specs.Data.{string}
use Rattle.serde_json.specs.View.{members_view, view}
use Rattle.neldrafi_schema.specs.Rules.{member_list, on_names, target}
use Rattle.neldrafi_schema.specs.machine.Compiled.{branch_of, targets_of}
use Rattle.neldrafi_schema.proofs.targets.push_names.Given as goal

-- the targets so far, and those of the keys that are left
abbrev pub invariant-loop-name : goal.invariant-loop-name
invariant-loop-name l =
    targets_of l.targets.items ++ map (λ m. target (branch_of l.branch) (string m.0) []) (member_list (members_view l.name-iterator))
    ≡ targets_of l.fn.targets.items ++ on_names (view l.instance) (branch_of l.branch)
