use Rattle.std.proofs.Common.{length}
use Rattle.strkw_label.proofs.PlainLabels.{PlainBefore}
use Rattle.strkw_label.proofs.plain_labels.after_plain_labels.Given as goal

-- plain labels stand before the rest
abbrev pub invariant-loop-rest : goal.invariant-loop-rest
invariant-loop-rest l = PlainBefore l.rest l.bytes

abbrev pub decreases-loop-rest : goal.decreases-loop-rest
decreases-loop-rest l = length l.rest
