-- Marked patterns from the end of a text on, and which are looked for from there.
use Rattle.std.specs.Prelude.{List, ℕ, reverse, Bool, true, false, not, ◌&&◌, ◌||◌, if◌then◌else◌}
use Rattle.strkw_regex_core.specs.Mirror.{mirror_look}
use Rattle.strkw_regex_core.specs.machine.MarkedPattern.{MarkedPattern, empty}
use Rattle.strkw_regex_core.specs.machine.MarkedPattern.{class, look, cat, alt, star, plus}
use Rattle.strkw_regex_core.specs.machine.MarkedPattern.{lookbehind, lookahead}
use Rattle.strkw_regex_core.specs.machine.OneCharLookahead.{are_told}
use Rattle.strkw_regex_core.specs.machine.Program.{is_empty}

-- what stands beside nothing stays on its side of it, so that one term stays one
abbrev pub mirror : MarkedPattern → MarkedPattern
mirror empty = empty
mirror (class m n rs) = class m n rs
mirror (look l) = look (mirror_look l)
mirror (cat p q) =
    if is_empty p || is_empty q then cat (mirror p) (mirror q) else cat (mirror q) (mirror p)
mirror (alt p q) = alt (mirror p) (mirror q)
mirror (star p) = star (mirror p)
mirror (plus p) = plus (mirror p)
mirror (lookbehind n p) = lookahead n (mirror p)
mirror (lookahead n p) = lookbehind n (mirror p)

-- as they are, or from the end
abbrev pub mirror_if : Bool → MarkedPattern → MarkedPattern
mirror_if false p = p
mirror_if true p = mirror p

abbrev pub along : Bool → List ℕ → List ℕ
along false text = text
along true text = reverse text

-- the search goes from the end of the text on, since only from there the next character tells what
-- each lookahead looks for
abbrev pub is_backward : MarkedPattern → Bool
is_backward p = not (are_told p) && are_told (mirror p)

-- what is looked for then, and in which text
abbrev pub target : MarkedPattern → MarkedPattern
target p = mirror_if (is_backward p) p

abbrev pub sought_in : MarkedPattern → List ℕ → List ℕ
sought_in p = along (is_backward p)
