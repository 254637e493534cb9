-- Which lookaheads are taken where they stand: those that are told by the next character.
use Rattle.std.specs.Prelude.{Bool, true, false, ◌&&◌}
use Rattle.strkw_regex_core.specs.machine.MarkedPattern.{MarkedPattern, empty, class, look, cat}
use Rattle.strkw_regex_core.specs.machine.MarkedPattern.{alt, star, plus}
use Rattle.strkw_regex_core.specs.machine.MarkedPattern.{lookbehind, lookahead}
use Rattle.strkw_regex_core.specs.machine.Program.{is_empty}

-- nothing, one character of a class, or an assertion; or alternatives of these
abbrev pub is_glance : MarkedPattern → Bool
is_glance empty = true
is_glance (class m n rs) = true
is_glance (look l) = true
is_glance (cat p q) = is_empty p && is_glance q
is_glance (alt p q) = is_glance p && is_glance q
is_glance (star p) = false
is_glance (plus p) = false
is_glance (lookbehind n p) = false
is_glance (lookahead n p) = is_glance p

-- each lookahead of the pattern is told so
abbrev pub are_told : MarkedPattern → Bool
are_told empty = true
are_told (class m n rs) = true
are_told (look l) = true
are_told (cat p q) = are_told p && are_told q
are_told (alt p q) = are_told p && are_told q
are_told (star p) = are_told p
are_told (plus p) = are_told p
are_told (lookbehind n p) = are_told p
are_told (lookahead n p) = is_glance p
