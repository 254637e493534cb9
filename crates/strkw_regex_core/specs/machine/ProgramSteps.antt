-- How many steps a program takes: one for each instruction, and of a class one more for each 32
-- ranges. A walk takes so many for a character, backwards and forwards.
use Rattle.std.specs.Prelude.{ℕ, ◌+◌, false, List, [], ◌∷◌, if◌then◌else◌}
use Rattle.strkw_regex_core.specs.Size.{class_steps}
use Rattle.strkw_regex_core.specs.machine.MarkedPattern.{MarkedPattern, class, cat, alt, star, plus}
use Rattle.strkw_regex_core.specs.machine.MarkedPattern.{lookbehind, lookahead}
use Rattle.strkw_regex_core.specs.machine.OneCharLookahead.{are_told}
use Rattle.strkw_regex_core.specs.machine.Program.{Instruction, read, peek, program}

abbrev pub instruction_steps : Instruction → ℕ
instruction_steps (read again optional n rs) = class_steps rs
instruction_steps (peek n rs) = class_steps rs
instruction_steps i = 1

abbrev pub steps_of : List Instruction → ℕ
steps_of [] = 0
steps_of (i ∷ is) = instruction_steps i + steps_of is

abbrev pub steps : MarkedPattern → ℕ
steps p = steps_of (program p)

-- the pattern with a mark beside what each lookaround looks for
abbrev pub spread : MarkedPattern → MarkedPattern
spread (cat p q) = cat (spread p) (spread q)
spread (alt p q) = alt (spread p) (spread q)
spread (star p) = star (spread p)
spread (plus p) = plus (spread p)
spread (lookbehind n p) = lookbehind n (cat (class false false []) (spread p))
spread (lookahead n p) = lookbehind n (cat (class false false []) (spread p))
spread p = p

-- of what is searched in one pass, or where lookaheads look farther than the next character, in one
-- more for each lookaround at most
abbrev pub search_steps : MarkedPattern → ℕ
search_steps p = if are_told p then steps p else steps (spread p)
