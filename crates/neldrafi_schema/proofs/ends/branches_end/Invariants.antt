use Rattle.std.proofs.Common.{◌≡◌, drop}
use Rattle.std.specs.List.{list_all}
use Rattle.neldrafi_schema.specs.machine.Compiled.{branches_of}
use Rattle.neldrafi_schema.specs.Refusals.{schemas_in}
use Rattle.neldrafi_schema.specs.machine.Said.{flag_at}
use Rattle.neldrafi_schema.proofs.ends.branches_end.Given as goal

-- the branches so far end
abbrev pub invariant-loop-branch : goal.invariant-loop-branch
invariant-loop-branch l = list_all (flag_at l.end) (schemas_in (branches_of l.branches))
    ≡ list_all (flag_at l.end) (schemas_in (branches_of (drop l.branch-index l.branches)))
