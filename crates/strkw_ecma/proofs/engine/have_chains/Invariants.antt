use Rattle.std.proofs.Common.{◌≡◌, drop}
use Rattle.strkw_ecma.specs.machine.Engine.{have_chains}
use Rattle.strkw_ecma.proofs.engine.have_chains.Given as goal

abbrev pub invariant-loop-part : goal.invariant-loop-part
invariant-loop-part l = have_chains l.parts ≡ have_chains (drop l.part-index l.parts)
