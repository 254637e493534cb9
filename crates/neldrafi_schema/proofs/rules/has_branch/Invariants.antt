use Rattle.std.proofs.Common.{◌≡◌, drop}
use Rattle.std.specs.List.{list_any}
use Rattle.neldrafi_schema.specs.Rules.{is_named}
use Rattle.neldrafi_schema.specs.machine.Compiled.{branches_of}
use Rattle.neldrafi_schema.proofs.rules.has_branch.Given as goal

-- no branch so far has the name
abbrev pub invariant-loop-branch : goal.invariant-loop-branch
invariant-loop-branch l = list_any (λ b. is_named l.name b.key) (branches_of l.branches) ≡ list_any (λ b. is_named l.name b.key) (branches_of (drop l.branch-index l.branches))
