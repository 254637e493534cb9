-- What the seekers of the code stand for.
use Rattle.std.specs.Prelude.{◌≡◌, ◌≤◌, true, List, [], ◌∷◌}
use Rattle.strkw_regex_core.specs.machine.MarkedPattern.{MarkedPattern}
use Rattle.strkw_regex_core.specs.Size.{max_steps}
use Rattle.strkw_regex_core.specs.machine.ProgramSteps.{steps}
use Rattle.strkw_regex_search.specs.machine.Machine.{pattern_of}
use Rattle.strkw_regex_core.specs.machine.Positions.{is_clean}
use Rattle.strkw_regex_search.specs.machine.Seeking.{Seeking}
use Rattle.strkw_regex_core.specs.machine.Shape.{outline_pattern}
use Rattle.strkw_regex_search.specs.declared.oracle_passes.OraclePass.{OraclePass}
use Rattle.strkw_regex_search.specs.declared.oracle_runner.OracleRunner.{OracleRunner}

abbrev pub seeking_of : OracleRunner → Seeking
seeking_of s = record {
  backward = s.is_backward;
  pattern = pattern_of s.program;
  told = s.told.items;
}

abbrev pub seekings : List OracleRunner → List Seeking
seekings [] = []
seekings (s ∷ ss) = seeking_of s ∷ seekings ss

-- the same of what is put aside
abbrev pub quest : OraclePass → Seeking
quest x = record {
  backward = x.is_backward;
  pattern = outline_pattern x.pattern;
  told = x.told.items;
}

abbrev pub quests : List OraclePass → List Seeking
quests [] = []
quests (x ∷ xs) = quest x ∷ quests xs

-- it takes no more steps than may be, and bears no mark
abbrev pub IsFit : MarkedPattern → Type 0
IsFit p = (steps p ≤ max_steps) × (is_clean p ≡ true)

abbrev pub AreFit : List OraclePass → Type 0
AreFit [] = Unit {0}
AreFit (x ∷ xs) = IsFit (outline_pattern x.pattern) × AreFit xs
