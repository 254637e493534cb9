use Rattle.std.proofs.Common.{◌≡◌, ◌++◌, drop}
use Rattle.neldrafi_schema.specs.Rules.{on_each}
use Rattle.neldrafi_schema.specs.machine.Compiled.{branch_of, children_of, targets_of}
use Rattle.neldrafi_schema.proofs.targets.push_each.Given as goal

-- the targets so far, and those of the children that are left
abbrev pub invariant-loop-child : goal.invariant-loop-child
invariant-loop-child l = targets_of l.targets.items ++ on_each (children_of (drop l.child-index l.children)) (branch_of l.branch)
    ≡ targets_of l.fn.targets.items ++ on_each (children_of l.children) (branch_of l.branch)
