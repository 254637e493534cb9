-- The search as a function.
use Rattle.std.specs.Prelude.{ℕ, Bool, true, ◌||◌, ◌&&◌, List, [], ◌∷◌, length, Option, Some, None}
use Rattle.std.specs.Prelude.{if◌then◌else◌}
use Rattle.strkw_regex_core.specs.machine.MarkedPattern.{MarkedPattern}
use Rattle.strkw_charset.specs.Membership.{differ}
use Rattle.strkw_regex_core.specs.machine.LeadingLookahead.{Part}
use Rattle.strkw_regex_core.specs.machine.Mirror.{target, sought_in}
use Rattle.strkw_regex_core.specs.machine.OneCharLookahead.{are_told}
use Rattle.strkw_regex_core.specs.machine.Positions.{leaves, step, is_unmarked}
use Rattle.strkw_regex_core.specs.machine.Sight.{depth, ends_by, begins_at}

-- whether the pattern is found in the rest of a text, behind the character `last`
abbrev pub search_from : MarkedPattern → Option ℕ → List ℕ → Bool
search_from p last [] = leaves last None p true
search_from p last (c ∷ cs) = leaves last (Some c) p true
    || search_from (step last (Some c) p true) (Some c) cs

-- whether it is found in the text, or where lookaheads look farther than the next character, ends
-- at some place
abbrev pub found_in : MarkedPattern → List ℕ → Bool
found_in p text = if are_told p then search_from p None text
    else ends_by (begins_at (depth p) text) text p (length text)

-- the same, searched along the text or from its end on
abbrev pub search : MarkedPattern → List ℕ → Bool
search p text = found_in (target p) (sought_in p text)

-- whether each part is found in the text, or is not, as it is to be
abbrev pub are_parts_found : List Part → List ℕ → Bool
are_parts_found [] text = true
are_parts_found (x ∷ xs) text = differ x.negated (search x.pattern text) && are_parts_found xs text

-- no class of what is looked for bears a mark
abbrev pub are_parts_clean : List Part → Bool
are_parts_clean [] = true
are_parts_clean (x ∷ xs) = is_unmarked (target x.pattern) && are_parts_clean xs
