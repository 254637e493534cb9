-- What the instructions of the code stand for.
use Rattle.std.specs.Prelude.{ℕ, nat_lt, Bool, true, false, ◌&&◌, List, [], ◌∷◌, slice_get, Option}
use Rattle.std.specs.Prelude.{Some, None}
use Rattle.strkw_regex_core.specs.Tree.{start, end, boundary, no_boundary}
use Rattle.strkw_regex_core.specs.machine.Program.{Instruction, read, assert, peek, fork, other, join}
use Rattle.strkw_regex_core.specs.machine.Program.{star_begin, star_end, plus_begin, plus_end, look_begin}
use Rattle.strkw_regex_core.specs.machine.Program.{look_end}
use Rattle.strkw_regex_search.specs.declared.code.Class.{Class}
use Rattle.strkw_regex_search.specs.declared.code.Turn.{Turn}
use Rattle.strkw_regex_search.specs.declared.code.Turn.TheVariants as turn
use Rattle.strkw_regex_search.specs.declared.code.Instruction.{Instruction as CodeInstruction}
use Rattle.strkw_regex_search.specs.declared.code.Instruction.TheVariants as instruction

abbrev pub turn_instruction : Turn → Instruction
turn_instruction turn.Start = assert start
turn_instruction turn.End = assert end
turn_instruction turn.Boundary = assert boundary
turn_instruction turn.NoBoundary = assert no_boundary
turn_instruction turn.Fork = fork
turn_instruction turn.Other = other
turn_instruction turn.Join = join
turn_instruction turn.StarBegin = star_begin
turn_instruction turn.StarEnd = star_end
turn_instruction turn.PlusBegin = plus_begin
turn_instruction turn.PlusEnd = plus_end
turn_instruction (turn.LookBegin negated) = look_begin negated
turn_instruction (turn.LookEnd negated) = look_end negated

-- of a class, if there is one
abbrev pub read_instruction : Bool → Bool → Option Class → Instruction
read_instruction again optional None = read again optional false []
read_instruction again optional (Some c) = read again optional c.negated c.sets.items

abbrev pub peek_instruction : Option Class → Instruction
peek_instruction None = peek false []
peek_instruction (Some c) = peek c.negated c.sets.items

abbrev pub instruction_of : List Class → CodeInstruction → Instruction
instruction_of classes (instruction.Read k again optional) =
    read_instruction again optional (slice_get classes k)
instruction_of classes (instruction.Peek k) = peek_instruction (slice_get classes k)
instruction_of classes (instruction.Turn t) = turn_instruction t

abbrev pub instructions : List Class → List CodeInstruction → List Instruction
instructions classes [] = []
instructions classes (i ∷ is) = instruction_of classes i ∷ instructions classes is

-- each class that is read is one of so many
abbrev pub are_within : ℕ → List CodeInstruction → Bool
are_within n [] = true
are_within n (instruction.Read k again optional ∷ is) = nat_lt k n && are_within n is
are_within n (instruction.Peek k ∷ is) = nat_lt k n && are_within n is
are_within n (instruction.Turn t ∷ is) = are_within n is
