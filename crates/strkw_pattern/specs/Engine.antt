-- What engines answer.
use Rattle.std.specs.Prelude.{◌≡◌, Bool, true, false, Result, Ok, Err}
use Rattle.strkw_pattern.specs.declared.engine.Outcome.{Outcome}
use Rattle.strkw_pattern.specs.declared.engine.Outcome.TheVariants as outcome
use Rattle.strkw_pattern.specs.declared.engine.EngineFailure.{EngineFailure}
use Rattle.strkw_pattern.specs.declared.engine.EngineFailure.TheVariants as failure

-- the answer is that of the outcome, or out of memory
abbrev pub IsAnswer : Outcome → Result Bool EngineFailure → Type 0
IsAnswer o (Ok true) = o ≡ outcome.Match
IsAnswer o (Ok false) = o ≡ outcome.NoMatch
IsAnswer o (Err failure.BacktrackLimit) = o ≡ outcome.BacktrackLimit
IsAnswer o (Err failure.Failed) = o ≡ outcome.Failed
IsAnswer o (Err failure.Memory) = Unit {0}
