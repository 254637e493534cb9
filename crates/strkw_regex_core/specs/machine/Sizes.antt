-- What the code counts of a pattern: its steps, up to one more than the most.
use Rattle.std.specs.Prelude.{ℕ, ◌+◌, min, Bool, true, false}
use Rattle.strkw_regex_core.specs.machine.MarkedPattern.{MarkedPattern}
use Rattle.strkw_regex_core.specs.Size.{max_steps}
use Rattle.strkw_regex_core.specs.machine.ProgramSteps.{spread}

abbrev pub cap_steps : ℕ → ℕ
cap_steps n = min n (max_steps + 1)

-- as it is, or with a mark beside what each lookaround looks for
abbrev pub spread_if : Bool → MarkedPattern → MarkedPattern
spread_if false p = p
spread_if true p = spread p
