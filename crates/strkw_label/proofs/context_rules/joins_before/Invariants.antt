use Rattle.std.proofs.Common.{◌≤◌}
use Rattle.strkw_label.proofs.Joining.{AreTransparent}
use Rattle.strkw_label.proofs.context_rules.joins_before.Given as goal

-- the characters from the end to the place are transparent
abbrev pub invariant-loop-end : goal.invariant-loop-end
invariant-loop-end l = (l.end ≤ l.place) × AreTransparent l.label l.end l.place

abbrev pub decreases-loop-end : goal.decreases-loop-end
decreases-loop-end l = l.end
