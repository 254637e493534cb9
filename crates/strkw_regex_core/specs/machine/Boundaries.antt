-- Whether a pattern asks where words begin and end.
use Rattle.std.specs.Prelude.{Bool, false, ◌||◌}
use Rattle.strkw_regex_core.specs.machine.MarkedPattern.{MarkedPattern, empty, class, look, cat}
use Rattle.strkw_regex_core.specs.machine.MarkedPattern.{alt, star, plus}
use Rattle.strkw_regex_core.specs.machine.MarkedPattern.{lookbehind, lookahead}
use Rattle.strkw_regex_core.specs.machine.Program.{asks_word}

-- `\b` or `\B` stands in a glance
abbrev pub sees_boundary : MarkedPattern → Bool
sees_boundary (look l) = asks_word l
sees_boundary (cat p q) = sees_boundary q
sees_boundary (alt p q) = sees_boundary p || sees_boundary q
sees_boundary (lookahead n p) = sees_boundary p
sees_boundary p = false

-- `\b` or `\B` stands in the pattern
abbrev pub has_boundary : MarkedPattern → Bool
has_boundary empty = false
has_boundary (class m n rs) = false
has_boundary (look l) = asks_word l
has_boundary (cat p q) = has_boundary p || has_boundary q
has_boundary (alt p q) = has_boundary p || has_boundary q
has_boundary (star p) = has_boundary p
has_boundary (plus p) = has_boundary p
has_boundary (lookbehind n p) = has_boundary p
has_boundary (lookahead n p) = sees_boundary p
