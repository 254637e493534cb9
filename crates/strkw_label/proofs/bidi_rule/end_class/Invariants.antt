use Rattle.std.proofs.Common.{◌≤◌, length}
use Rattle.strkw_label.proofs.Joining.{AreMarks}
use Rattle.strkw_label.proofs.bidi_rule.end_class.Given as goal

-- the characters from the end on are nonspacing marks
abbrev pub invariant-loop-end : goal.invariant-loop-end
invariant-loop-end l = (l.end ≤ length l.label) × AreMarks l.label l.end

abbrev pub decreases-loop-end : goal.decreases-loop-end
decreases-loop-end l = l.end
