use Rattle.strkw_label.proofs.Joining.{AreTransparent}
use Rattle.strkw_label.proofs.context_rules.joins_from.Given as goal

-- the characters from the place on and before the next one are transparent
abbrev pub invariant-loop-at : goal.invariant-loop-at
invariant-loop-at l = AreTransparent l.label l.place l.at
