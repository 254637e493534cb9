use Rattle.std.proofs.Common.{◌≡◌, drop}
use Rattle.strkw_charset.specs.Membership.{in_sets}
use Rattle.strkw_charset.proofs.tree.contains.Given as goal

-- what was passed over does not have it
abbrev pub invariant-loop-set : goal.invariant-loop-set
invariant-loop-set l = in_sets l.sets l.c ≡ in_sets (drop l.set-index l.sets) l.c
