use Rattle.std.proofs.Common.{◌≡◌, drop}
use Rattle.strkw_ecma.specs.machine.Engine.{have_rows}
use Rattle.strkw_ecma.proofs.engine.take_memory.Given as goal

abbrev pub invariant-loop-part : goal.invariant-loop-part
invariant-loop-part l = have_rows l.parts ≡ have_rows (drop l.part-index l.parts)
