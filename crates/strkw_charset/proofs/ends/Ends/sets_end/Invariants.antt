use Rattle.std.proofs.Common.{◌≡◌, ◌≤◌, ◌<◌, ℕ, drop}
use Rattle.strkw_charset.specs.Membership.{in_sets}
use Rattle.strkw_charset.proofs.ends.Ends.sets_end.Given as goal

-- the sets that were passed have all code points up to the end alike
abbrev pub invariant-loop-set : goal.invariant-loop-set
invariant-loop-set l = record {
  beyond : l.c < l.end;
  within : l.end ≤ 0x110000;
  alike : (d : ℕ) → l.c ≤ d → d < l.end → in_sets (drop l.set-index l.sets) d ≡ in_sets (drop l.set-index l.sets) l.c → in_sets l.sets d ≡ in_sets l.sets l.c;
}
