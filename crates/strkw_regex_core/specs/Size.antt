-- How large a pattern is: how many steps a search for it takes for a character, counted on the
-- pattern itself, in which what is repeated stands once, times its counts.
use Rattle.std.specs.Prelude.{ℕ, ◌+◌, ◌-◌, ◌*◌, ◌/◌, nat_le, Bool, true, false, List, [], ◌∷◌}
use Rattle.std.specs.Prelude.{Option, Some, None, if◌then◌else◌}
use Rattle.strkw_charset.specs.declared.tree.CharSet.{CharSet}
use Rattle.strkw_charset.specs.declared.tree.CharSet.TheVariants.{Range, Property}
use Rattle.strkw_regex_core.specs.Tree.{Pattern, empty, class, look, cat, alt, repeat}
use Rattle.strkw_regex_core.specs.Tree.{lookbehind, lookahead}
use Rattle.strkw_regex_core.specs.Near.{is_option}

-- of a counted term, its copies each with the steps of what is repeated
abbrev pub max_term_steps : ℕ
max_term_steps = 5200

-- of a whole pattern
abbrev pub max_steps : ℕ
max_steps = 5200

-- to look a character up takes what eight ranges do
abbrev pub set_cost : CharSet → ℕ
set_cost (Range low high) = 1
set_cost (Property n p) = 8

abbrev pub sets_cost : List CharSet → ℕ
sets_cost [] = 0
sets_cost (r ∷ rs) = set_cost r + sets_cost rs

abbrev pub class_steps : List CharSet → ℕ
class_steps rs = sets_cost rs / 32 + 1

-- how many copies of what it repeats a quantifier takes; `{0,}` and `{1,}` are `*` and `+`
abbrev pub copies : ℕ → Option ℕ → ℕ
copies min None = if nat_le min 1 then 1 else min + 1
copies min (Some max) = max

-- what is repeated without end, or may be missing: a class as it is, and of anything else so many
-- steps more
abbrev pub more_unless_class : Pattern → ℕ → ℕ → ℕ
more_unless_class (class n rs) size more = size
more_unless_class p size more = size + more

-- the copies that are required, and what is repeated without end, or those that may be missing
abbrev pub repeated_size : ℕ → Option ℕ → Pattern → ℕ → ℕ
repeated_size min None p size =
    (if nat_le min 1 then 0 else min * size) + more_unless_class p size 2
repeated_size min (Some max) p size = min * size + (max - min) * more_unless_class p size 3

-- between two alternatives stands one step, and around the first two are two more
abbrev pub bar_size : Pattern → ℕ
bar_size (alt p q) = 1
bar_size p = 3

-- Of what a lookaround looks for that the next character tells. Where the first holds, the text is
-- read from its end on. Of a sequence it is the last term alone: what is before it is nothing then.
abbrev pub glance_size : Bool → Pattern → ℕ
glance_size back empty = 0
glance_size back (class n rs) = class_steps rs
glance_size back (look l) = 1
glance_size back (cat p q) = glance_size back q
glance_size back (alt p q) = glance_size back p + glance_size back q + 3
glance_size back (repeat min max p) = if is_option min max then glance_size back p + 3 else 0
glance_size back (lookbehind n p) = if back then glance_size back p + 2 else 0
glance_size back (lookahead n p) = if back then 0 else glance_size back p + 2

-- A text is read in one pass, from its beginning or from its end on, where the next character tells
-- the lookarounds that look that way; or each lookaround has a pass of its own.
pub data Reading : Type 0 where
  forth back apart : Reading

-- a lookbehind and a lookahead, by the size of what each looks for and by that of a glance of it
abbrev pub lookbehind_size : Reading → ℕ → ℕ → ℕ
lookbehind_size forth size glance = size + 2
lookbehind_size back size glance = glance + 2
lookbehind_size apart size glance = size + 3

abbrev pub lookahead_size : Reading → ℕ → ℕ → ℕ
lookahead_size forth size glance = glance + 2
lookahead_size back size glance = size + 2
lookahead_size apart size glance = size + 3

abbrev pub size : Reading → Pattern → ℕ
size r empty = 0
size r (class n rs) = class_steps rs
size r (look l) = 1
size r (cat p q) = size r p + size r q
size r (alt p q) = size r p + bar_size p + size r q
size r (repeat min max p) = repeated_size min max p (size r p)
size r (lookbehind n p) = lookbehind_size r (size r p) (glance_size true p)
size r (lookahead n p) = lookahead_size r (size r p) (glance_size false p)
