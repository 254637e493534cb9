use Rattle.std.proofs.Common.{length, subst}
use Rattle.neldrafi_schema.specs.machine.Said.{IsSenseReady}
use Rattle.neldrafi_schema.proofs.reading.Reader.numbered.Goals as goal

pub returns-in_ok-from_str-in-Says-clause-ready : goal.returns-in_ok-from_str-in-Says-clause-ready
returns-in_ok-from_str-in-Says-clause-ready g c = λ lists ready all extends. (
  subst (IsSenseReady g.B.Engine.RegexEngine.outcome lists) c.in-Says.is ready (length all),
  c.in_ok-branches-in-Says.ensures.inside all extends,
)
