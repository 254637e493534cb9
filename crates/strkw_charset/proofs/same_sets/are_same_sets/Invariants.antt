use Rattle.std.proofs.Common.{◌≡◌, ℕ, drop}
use Rattle.strkw_charset.specs.Membership.{in_sets}
use Rattle.strkw_charset.proofs.same_sets.are_same_sets.Given as goal

-- the sets are the same where the rest of both is
abbrev pub invariant-loop-set : goal.invariant-loop-set
invariant-loop-set l =
    (c : ℕ) → in_sets (drop l.set-index l.one) c ≡ in_sets l.rest c → in_sets l.one c ≡ in_sets l.other c
