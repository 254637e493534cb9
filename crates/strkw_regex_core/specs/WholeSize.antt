-- The size of a whole pattern. A lookahead at its front, behind `^`, for what the next character
-- does not tell is looked for by itself, from the beginning of the text on, beside the rest.
use Rattle.std.specs.Prelude.{ℕ, ◌+◌, Bool, true, false, not, if◌then◌else◌}
use Rattle.strkw_regex_core.specs.Tree.{Look, start, end, boundary, no_boundary}
use Rattle.strkw_regex_core.specs.Tree.{Pattern, empty, look, cat, repeat, lookbehind, lookahead}
use Rattle.strkw_regex_core.specs.Near.{is_never, is_near, are_near}
use Rattle.strkw_regex_core.specs.Size.{size, forth, back, apart}
use Rattle.strkw_regex_core.specs.declared.leading_lookahead.Lead.{Lead}
use Rattle.strkw_regex_core.specs.declared.leading_lookahead.Lead.TheVariants.{Nothing, Anchored, Past}

-- a term that reads no character
abbrev pub reads_nothing : Pattern → Bool
reads_nothing empty = true
reads_nothing (look l) = true
reads_nothing (repeat min max p) = is_never min max
reads_nothing (lookbehind n p) = true
reads_nothing (lookahead n p) = true
reads_nothing p = false

abbrev pub look_lead : Look → Lead
look_lead start = Anchored
look_lead end = Past
look_lead boundary = Past
look_lead no_boundary = Past

-- of a first term
abbrev pub first_lead : Pattern → Lead
first_lead empty = Nothing
first_lead (look l) = look_lead l
first_lead (repeat min max p) = if is_never min max then Nothing else Past
first_lead p = Past

-- of one term more
abbrev pub lead_behind : Lead → Pattern → Lead
lead_behind Nothing q = first_lead q
lead_behind Anchored q = if reads_nothing q then Anchored else Past
lead_behind Past q = Past

-- what a pattern is as the front of another: nothing; `^`, with terms behind it that read nothing;
-- or more
abbrev pub lead : Pattern → Lead
lead (cat p q) = lead_behind (lead p) q
lead p = first_lead p

abbrev pub is_far : Pattern → Bool
is_far (lookahead n p) = not (is_near false p)
is_far p = false

-- a term is looked for by itself
abbrev pub is_apart_behind : Lead → Pattern → Bool
is_apart_behind Nothing q = false
is_apart_behind Anchored q = is_far q
is_apart_behind Past q = false

-- of a part, read in the direction in which the next character tells its lookarounds, if in any
abbrev pub part_size : Pattern → ℕ
part_size p =
    if are_near false p then size forth p
    else if are_near true p then size back p
    else size apart p

-- what a lookahead looks for, from the beginning of a text on
abbrev pub front_size : Pattern → ℕ
front_size (lookahead n p) = part_size (cat (look start) p)
front_size p = 0

-- all that are at the front
abbrev pub fronts_size : Pattern → ℕ
fronts_size (cat p q) =
    fronts_size p + (if is_apart_behind (lead p) q then front_size q else 0)
fronts_size p = 0

-- the pattern without them
abbrev pub rest : Pattern → Pattern
rest (cat p q) = if is_apart_behind (lead p) q then rest p else cat (rest p) q
rest p = p

abbrev pub whole_size : Pattern → ℕ
whole_size p = part_size (rest p) + fronts_size p
