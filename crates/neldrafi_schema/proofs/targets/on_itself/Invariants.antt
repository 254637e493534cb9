use Rattle.std.proofs.Common.{◌≡◌, ◌++◌, drop}
use Rattle.serde_json.specs.View.{view}
use Rattle.neldrafi_schema.specs.Rules.{on_itself}
use Rattle.neldrafi_schema.specs.machine.Compiled.{branches_of, targets_of}
use Rattle.neldrafi_schema.proofs.targets.on_itself.Given as goal

-- the targets so far, and those that are left
abbrev pub invariant-loop-branch : goal.invariant-loop-branch
invariant-loop-branch l = targets_of l.targets.items ++ on_itself (view l.instance) (branches_of (drop l.branch-index l.branches)) ≡ on_itself (view l.instance) (branches_of l.branches)
