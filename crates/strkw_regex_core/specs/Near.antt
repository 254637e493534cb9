-- Which lookarounds the next character tells: lookaheads, or where a text is read from its end on,
-- lookbehinds.
use Rattle.std.specs.Prelude.{ℕ, ◌==◌, Bool, true, false, not, ◌&&◌, ◌||◌, Option, Some, None}
use Rattle.std.specs.Prelude.{if◌then◌else◌}
use Rattle.strkw_regex_core.specs.Tree.{Pattern, empty, class, look, cat, alt, repeat}
use Rattle.strkw_regex_core.specs.Tree.{lookbehind, lookahead}

-- no round
abbrev pub is_never : ℕ → Option ℕ → Bool
is_never min None = false
is_never min (Some max) = min == 0 && max == 0

-- none or one: `?`
abbrev pub is_option : ℕ → Option ℕ → Bool
is_option min None = false
is_option min (Some max) = min == 0 && max == 1

-- one number of rounds
abbrev pub is_exact : ℕ → Option ℕ → Bool
is_exact min None = false
is_exact min (Some max) = min == max

abbrev pub is_empty : Pattern → Bool
is_empty empty = true
is_empty p = false

-- nothing, one character of a class, or an assertion; or alternatives of these. Where the first
-- holds, the text is read from its end on.
abbrev pub is_near : Bool → Pattern → Bool
is_near back empty = true
is_near back (class n rs) = true
is_near back (look l) = true
is_near back (cat p q) = is_empty p && is_near back q
is_near back (alt p q) = is_near back p && is_near back q
is_near back (repeat min max p) =
    if is_option min max then is_near back p else is_exact min max && (min == 0 || is_empty p)
is_near back (lookbehind n p) = back && is_near back p
is_near back (lookahead n p) = not back && is_near back p

-- each lookaround that looks the way the text is read looks for such
abbrev pub are_near : Bool → Pattern → Bool
are_near back empty = true
are_near back (class n rs) = true
are_near back (look l) = true
are_near back (cat p q) = are_near back p && are_near back q
are_near back (alt p q) = are_near back p && are_near back q
are_near back (repeat min max p) = is_never min max || are_near back p
are_near back (lookbehind n p) = if back then is_near back p else are_near back p
are_near back (lookahead n p) = if back then are_near back p else is_near back p
