-- What a program of the code stands for, and what a walk over it has at hand.
use Rattle.std.specs.Prelude.{◌≡◌, ℕ, ◌<◌, ◌≤◌, ◌+◌, Bool, true, false, List, ◌++◌, length, drop}
use Rattle.std.specs.Prelude.{get_or, slice_get, Vec, Option, Some, None}
use Rattle.std.specs.declared.alloc.Global.{Global}
use Rattle.strkw_regex_core.specs.machine.MarkedPattern.{MarkedPattern}
use Rattle.strkw_regex_core.specs.machine.Positions.{reads}
use Rattle.strkw_regex_core.specs.machine.Program.{Instruction}
use Rattle.strkw_regex_search.specs.machine.Walk.{Asked, Following}
use Rattle.strkw_regex_core.specs.machine.Shape.{outline_pattern}
use Rattle.strkw_regex_search.specs.machine.Instructions.{instructions, are_within}
use Rattle.strkw_regex_search.specs.declared.code.Class.{Class}
use Rattle.strkw_regex_search.specs.declared.code.Code.{Code}
use Rattle.strkw_regex_search.specs.declared.program.Program.{Program}
use Rattle.strkw_regex_search.specs.declared.stack.Stack.{Stack}
use Rattle.strkw_regex_search.specs.declared.walk.Ahead.{Ahead}
use Rattle.strkw_regex_search.specs.declared.walk.Walk.{Walk}

abbrev pub pattern_of : Program → MarkedPattern
pattern_of p = outline_pattern p.outline

abbrev pub instructions_of : Code → List Instruction
instructions_of code = instructions code.classes.items code.instructions.items

abbrev pub program_of : Program → List Instruction
program_of p = instructions_of p.code

-- each class that is read is there
abbrev pub IsWithin : Code → Type 0
IsWithin code = are_within (length code.classes.items) code.instructions.items ≡ true

-- These instructions are written behind what is written, and no more classes added than
-- instructions.
pub record Writes (old new : Code) (is : List Instruction) : Type 0 where
  pub within : IsWithin old → IsWithin new
  pub written_is : IsWithin old → instructions_of new ≡ instructions_of old ++ is
  pub classes : length new.classes.items + length old.instructions.items
      ≤ length old.classes.items + length new.instructions.items
  pub grows : length old.instructions.items ≤ length new.instructions.items

-- the answers of a stack, the last first
abbrev pub answers_of : Stack → List Bool
answers_of s = drop s.first s.answers

abbrev pub asked_of : Ahead → Walk → Asked
asked_of a w = record {
  ends = a.ends;
  goes_on = a.goes_on;
  around = answers_of w.around;
  again = answers_of w.again;
}

-- with whether a way has come to the next instruction
abbrev pub following_of : Bool → Walk → Following
following_of enters w = record {
  enters = enters;
  around = answers_of w.around;
  again = answers_of w.again;
}

-- whether there is a character, and the class has it
abbrev pub class_reads : Option ℕ → Option Class → Bool
class_reads next None = false
class_reads next (Some c) = reads next c.negated c.sets.items

-- of each class
abbrev pub AreReads : Option ℕ → List Class → List Bool → Type 0
AreReads next classes rs = (k : ℕ) → k < length classes
    → get_or rs k false ≡ class_reads next (slice_get classes k)

-- of each class of a program, and there are no fewer answers
abbrev pub AreReadsOf : Program → Option ℕ → List Bool → Type 0
AreReadsOf p next rs = AreReads next p.code.classes.items rs
    × (length p.code.classes.items ≤ length rs)

-- of each class about each of these characters and, behind them, about the end of a text
abbrev pub AreReadsOfAll : Program → List ℕ → List (Vec Bool Global) → Type 0
AreReadsOfAll p samples all = (k : ℕ) (rs : Vec Bool Global) → slice_get all k ≡ Some rs
    → AreReadsOf p (slice_get samples k) rs.items
