-- What a part of a run writes. The functions below `run` speak of it, and no public clause does.
use Rattle.std.specs.Prelude.{ℕ, List, Result, Ok, Err}
use Rattle.strkw_cli.specs.Lines.{lines, ended_lines}
use Rattle.strkw_cli.specs.Answer.{AreAnswers}
use Rattle.strkw_cli.specs.Outcome.{AnswersSome, IsCutShort}
use Rattle.strkw_cli.specs.declared.faults.RunFault.{RunFault}
use Rattle.strkw_cli.specs.declared.faults.RunFault.TheVariants.{Read, Write, Memory, TooLong}

-- The part is to answer the lines `whole` of these bytes. It reads nothing, and fails only where
-- it is out of memory or the sink fails.
abbrev pub Serves : {T : Type 0} → Result T RunFault → List (List ℕ) → List ℕ → List ℕ → Type 0
Serves (Ok done) whole bytes written = AreAnswers whole written
Serves (Err Read) whole bytes written = ⊥
Serves (Err TooLong) whole bytes written = ⊥
Serves (Err Memory) whole bytes written = AnswersSome (ended_lines bytes) written
Serves (Err Write) whole bytes written = IsCutShort (lines bytes) written
