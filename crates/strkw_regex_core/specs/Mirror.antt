-- Patterns from the end of a text on: what a pattern matches in a text, its mirror matches in the
-- text turned round. There each lookahead is a lookbehind.
use Rattle.strkw_regex_core.specs.Tree.{Look, start, end, boundary, no_boundary, Pattern, empty}
use Rattle.strkw_regex_core.specs.Tree.{class, look, cat, alt, repeat, lookbehind, lookahead}

abbrev pub mirror_look : Look → Look
mirror_look start = end
mirror_look end = start
mirror_look boundary = boundary
mirror_look no_boundary = no_boundary

abbrev pub mirror : Pattern → Pattern
mirror empty = empty
mirror (class n rs) = class n rs
mirror (look l) = look (mirror_look l)
mirror (cat p q) = cat (mirror q) (mirror p)
mirror (alt p q) = alt (mirror p) (mirror q)
mirror (repeat min max p) = repeat min max (mirror p)
mirror (lookbehind n p) = lookahead n (mirror p)
mirror (lookahead n p) = lookbehind n (mirror p)
