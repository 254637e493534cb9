use Rattle.std.proofs.Common.{◌≡◌, drop}
use Rattle.strkw_ecma.specs.machine.Engine.{have_tables}
use Rattle.strkw_ecma.proofs.engine.have_tables.Given as goal

abbrev pub invariant-loop-part : goal.invariant-loop-part
invariant-loop-part l = have_tables l.parts ≡ have_tables (drop l.part-index l.parts)
