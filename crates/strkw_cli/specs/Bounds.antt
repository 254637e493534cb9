-- Lines that are no longer than a bound, and what is written where one is.
use Rattle.std.specs.Prelude.{◌≡◌, ◌⊎◌, ◌≤◌, ℕ, false, List, [], ◌∷◌, ◌++◌, length, Option, Some}
use Rattle.std.specs.Prelude.{None, Result, Ok, Err, ⊤}
use Rattle.strkw_cli.specs.Answer.{AreAnswers, IsOutput}
use Rattle.strkw_cli.specs.Lines.{ended_lines, is_line_feed, last_part}
use Rattle.strkw_cli.specs.Outcome.{IsFaultOutcome}
use Rattle.strkw_cli.specs.declared.faults.BoundedRunFault.{BoundedRunFault}
use Rattle.strkw_cli.specs.declared.faults.BoundedRunFault.TheVariants.{Run, LongLine}
use Rattle.strkw_cli.specs.declared.faults.RunFault.{RunFault}
use Rattle.strkw_cli.specs.declared.running.Ending.{Ending}
use Rattle.strkw_cli.specs.declared.running.Ending.TheVariants.{AtEnd, AtLongLine}

-- a line is within the bound, where there is one: so many bytes, without its line feed
abbrev pub Fits : Option ℕ → List ℕ → Type 0
Fits None line = ⊤
Fits (Some longest) line = length line ≤ longest

-- each of the lines is
unfoldable pub AreWithin : Option ℕ → List (List ℕ) → Type 0
AreWithin bound [] = ⊤
AreWithin bound (line ∷ more) = Fits bound line × AreWithin bound more

-- the lines that end in these bytes are, and so is what follows the last line feed
abbrev pub HasShortLines : Option ℕ → List ℕ → Type 0
HasShortLines bound bytes = AreWithin bound (ended_lines bytes) × Fits bound (last_part bytes)

-- what follows the last line feed is as long as the bound lets it be, and goes on
abbrev pub GoesPast : Option ℕ → List ℕ → List ℕ → Type 0
GoesPast None bytes rest = ⊥
GoesPast (Some longest) bytes [] = ⊥
GoesPast (Some longest) bytes (byte ∷ rest) =
    (length (last_part bytes) ≡ longest) × (is_line_feed byte ≡ false)

-- What a run has taken of the bytes that it read: all of them, or those before the first byte by
-- which a line is longer than the bound.
pub record IsTaken (bound : Option ℕ) (read taken : List ℕ) : Type 0 where
  pub rest : List ℕ
  pub splits : read ≡ taken ++ rest
  pub short : HasShortLines bound taken
  pub stops : (rest ≡ []) ⊎ GoesPast bound taken rest

-- A line of what was read is longer than the bound, and the answers to the lines before it were
-- written.
pub record StopsAtLongLine (bound : Option ℕ) (read written : List ℕ) : Type 0 where
  pub taken : List ℕ
  pub rest : List ℕ
  pub splits : read ≡ taken ++ rest
  pub short : HasShortLines bound taken
  pub goes_past : GoesPast bound taken rest
  pub answered : AreAnswers (ended_lines taken) written

-- What is written for the bytes read, by the result of a run within a bound: where it is at the
-- end, no line is longer.
abbrev pub IsOutcomeWithin : Option ℕ → Result Ending RunFault → List ℕ → List ℕ → Type 0
IsOutcomeWithin bound (Ok AtEnd) read written = HasShortLines bound read × IsOutput read written
IsOutcomeWithin bound (Ok AtLongLine) read written = StopsAtLongLine bound read written
IsOutcomeWithin bound (Err fault) read written =
    (taken : List ℕ) × IsTaken bound read taken × IsFaultOutcome fault taken written

-- The same by the result of `run_bounded`.
abbrev pub IsBoundedOutcome : {T : Type 0} → ℕ → Result T BoundedRunFault → List ℕ → List ℕ → Type 0
IsBoundedOutcome longest (Ok done) read written =
    HasShortLines (Some longest) read × IsOutput read written
IsBoundedOutcome longest (Err (LongLine bound)) read written =
    (bound ≡ longest) × StopsAtLongLine (Some longest) read written
IsBoundedOutcome longest (Err (Run fault)) read written =
    (taken : List ℕ) × IsTaken (Some longest) read taken × IsFaultOutcome fault taken written
