use Rattle.std.proofs.Common.{◌-◌, length}
use Rattle.neldrafi_position.specs.machine.Marks.{AreMarks}
use Rattle.neldrafi_position.proofs.position.position_at.Given as goal

abbrev pub invariant-loop-marks : goal.invariant-loop-marks
invariant-loop-marks l = AreMarks l.text l.marks.items

abbrev pub decreases-loop-marks : goal.decreases-loop-marks
decreases-loop-marks l = l.strides - length l.marks.items
