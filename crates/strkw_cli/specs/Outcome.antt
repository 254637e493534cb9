-- What a run has written, by its result.
use Rattle.std.specs.Prelude.{◌≡◌, ℕ, ◌-◌, ◌^◌, ◌≤◌, List, ◌∷◌, ◌++◌, length, Result, Ok, Err}
use Rattle.strkw_cli.specs.Lines.{lines, ended_lines}
use Rattle.strkw_cli.specs.Answer.{IsAnswer, AreAnswers, IsOutput}
use Rattle.strkw_cli.specs.declared.faults.RunFault.{RunFault}
use Rattle.strkw_cli.specs.declared.faults.RunFault.TheVariants.{Read, Write, Memory, TooLong}

-- The answers to some beginning of the lines were written.
pub record AnswersSome (requests : List (List ℕ)) (written : List ℕ) : Type 0 where
  pub answered : List (List ℕ)
  pub later : List (List ℕ)
  pub of_requests : requests ≡ answered ++ later
  pub wrote : AreAnswers answered written

-- The answers to some beginning of the lines were written, and then a beginning of the next answer.
pub record IsCutShort (requests : List (List ℕ)) (written : List ℕ) : Type 0 where
  pub answered : List (List ℕ)
  pub next : List ℕ
  pub later : List (List ℕ)
  pub begun : List ℕ
  pub missing : List ℕ
  pub of_requests : requests ≡ answered ++ next ∷ later
  pub whole : List ℕ
  pub of_answered : AreAnswers answered whole
  pub of_next : IsAnswer next (begun ++ missing)
  pub wrote : written ≡ whole ++ begun

-- What is written for the bytes read, by the fault that a run ended with. After a fault of reading,
-- of memory or of length, only lines whose line feed was read are answered, and each of their
-- answers is whole.
abbrev pub IsFaultOutcome : RunFault → List ℕ → List ℕ → Type 0
IsFaultOutcome Read read written = AreAnswers (ended_lines read) written
IsFaultOutcome TooLong read written = AreAnswers (ended_lines read) written
    × (2 ^ 64 - 1 ≤ length read)
IsFaultOutcome Memory read written = AnswersSome (ended_lines read) written
IsFaultOutcome Write read written = IsCutShort (lines read) written

-- The same, by the result of the run.
abbrev pub IsOutcome : {T : Type 0} → Result T RunFault → List ℕ → List ℕ → Type 0
IsOutcome (Ok done) read written = IsOutput read written
IsOutcome (Err fault) read written = IsFaultOutcome fault read written
