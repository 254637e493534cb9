use Rattle.std.proofs.Common.{◌≡◌, ◌++◌}
use Rattle.std.specs.Iterator.Adapters.{zip_first, zip_second}
use Rattle.std.specs.Slice.Iter.{iter_rest}
use Rattle.neldrafi_schema.specs.Rules.{valid_of}
use Rattle.neldrafi_schema.specs.machine.Compiled.{targets_of}
use Rattle.neldrafi_schema.proofs.targets.valid_of.Given as goal

-- the targets so far, and those that are left
abbrev pub invariant-loop-target : goal.invariant-loop-target
invariant-loop-target l = targets_of l.valid.items ++ valid_of (targets_of (zip_first l.target-iterator).rest.items) (iter_rest (zip_second l.target-iterator))
    ≡ valid_of (targets_of l.fn.targets.items) l.verdicts
