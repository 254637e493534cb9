use Rattle.std.proofs.Common.{◌≡◌, ◌++◌, drop}
use Rattle.std.specs.List.{flat_map}
use Rattle.serde_json.specs.View.{view}
use Rattle.neldrafi_schema.specs.Rules.{on_child}
use Rattle.neldrafi_schema.specs.machine.Compiled.{branches_of, targets_of}
use Rattle.neldrafi_schema.proofs.targets.on_children.Given as goal

-- the targets so far, and those that are left
abbrev pub invariant-loop-branch : goal.invariant-loop-branch
invariant-loop-branch l = targets_of l.targets.items ++ flat_map (on_child (view l.instance)) (branches_of (drop l.branch-index l.branches)) ≡ flat_map (on_child (view l.instance)) (branches_of l.branches)
