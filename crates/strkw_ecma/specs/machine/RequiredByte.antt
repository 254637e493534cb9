-- A character that each match of a pattern reads.
use Rattle.std.specs.Prelude.{ℕ, nat_lt, Bool, true, false, ◌&&◌, ◌==◌, List, [], ◌∷◌, Option, Some}
use Rattle.std.specs.Prelude.{None, if◌then◌else◌}
use Rattle.strkw_regex_core.specs.machine.MarkedPattern.{MarkedPattern, class, cat, alt, plus}
use Rattle.strkw_regex_core.specs.machine.Times.{Times, any_times, some_times, once_at_most}
use Rattle.strkw_regex_core.specs.machine.Times.{exact_times}
use Rattle.strkw_regex_core.specs.machine.Times.{least_times, range_times}
use Rattle.strkw_charset.specs.declared.tree.CharSet.{CharSet}
use Rattle.strkw_charset.specs.declared.tree.CharSet.TheVariants.{Range, Property}

-- the one character that these sets have, where it is one of ASCII
abbrev pub only_character : List CharSet → Option ℕ
only_character [] = None
only_character (Range low high ∷ []) = if low == high && nat_lt low 128 then Some low else None
only_character (Property lacked p ∷ []) = None
only_character (r ∷ s ∷ rs) = None

-- the last of two, where both are there
abbrev pub later : Option ℕ → Option ℕ → Option ℕ
later first None = first
later first (Some c) = Some c

-- what two have in common
abbrev pub common : Option ℕ → Option ℕ → Option ℕ
common None other = None
common (Some c) None = None
common (Some c) (Some d) = if c == d then Some c else None

-- it takes one copy at least of what it repeats
abbrev pub is_sure : Times → Bool
is_sure any_times = false
is_sure some_times = true
is_sure once_at_most = false
is_sure (exact_times n) = nat_lt 0 n
is_sure (least_times n) = nat_lt 0 n
is_sure (range_times n m) = nat_lt 0 n

-- the character, if one is seen; of terms in a row, that of the last that has one
abbrev pub needed_char : MarkedPattern → Option ℕ
needed_char (class m n rs) = if n then None else only_character rs
needed_char (cat p q) = later (needed_char p) (needed_char q)
needed_char (alt p q) = common (needed_char p) (needed_char q)
needed_char (plus p) = needed_char p
needed_char p = None
