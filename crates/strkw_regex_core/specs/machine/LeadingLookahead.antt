-- The lookaheads at the front of a pattern, behind `^`. Where the next character does not tell what
-- one looks for, it is looked for by itself: it is a part of the pattern, beside the rest.
use Rattle.std.specs.Prelude.{ℕ, ◌+◌, Bool, true, false, not, List, [], ◌∷◌, ◌++◌, if◌then◌else◌, ⊤}
use Rattle.strkw_regex_core.specs.Tree.{start}
use Rattle.strkw_regex_core.specs.WholeSize.{look_lead}
use Rattle.strkw_regex_core.specs.machine.MarkedPattern.{MarkedPattern, empty}
use Rattle.strkw_regex_core.specs.machine.MarkedPattern.{look, cat, lookbehind, lookahead}
use Rattle.strkw_regex_core.specs.machine.OneCharLookahead.{is_glance}
use Rattle.strkw_regex_core.specs.machine.MarkedMeaning.{Found}
use Rattle.strkw_regex_core.specs.Meaning.{Unless}
use Rattle.strkw_regex_core.specs.machine.Mirror.{target}
use Rattle.strkw_regex_core.specs.machine.ProgramSteps.{search_steps}
use Rattle.strkw_regex_core.specs.declared.leading_lookahead.Lead.{Lead}
use Rattle.strkw_regex_core.specs.declared.leading_lookahead.Lead.TheVariants.{Nothing, Anchored, Past}

-- it reads no character
abbrev pub reads_nothing : MarkedPattern → Bool
reads_nothing empty = true
reads_nothing (look l) = true
reads_nothing (lookbehind n p) = true
reads_nothing (lookahead n p) = true
reads_nothing p = false

-- of a first term
abbrev pub first_lead : MarkedPattern → Lead
first_lead empty = Nothing
first_lead (look l) = look_lead l
first_lead p = Past

-- of one term more
abbrev pub lead_behind : Lead → MarkedPattern → Lead
lead_behind Nothing q = first_lead q
lead_behind Anchored q = if reads_nothing q then Anchored else Past
lead_behind Past q = Past

-- what a pattern is as the front of another: nothing; `^`, with terms behind it that read nothing;
-- or more
abbrev pub lead : MarkedPattern → Lead
lead (cat p q) = lead_behind (lead p) q
lead p = first_lead p

-- what is to be found, or where the first holds, is not
pub record Part : Type 0 where
  pub negated : Bool
  pub pattern : MarkedPattern

-- a lookahead for what the next character does not tell
abbrev pub is_far : MarkedPattern → Bool
is_far (lookahead n p) = not (is_glance p)
is_far p = false

-- a term is a part of its own
abbrev pub is_apart_behind : Lead → MarkedPattern → Bool
is_apart_behind Nothing q = false
is_apart_behind Anchored q = is_far q
is_apart_behind Past q = false

-- what a lookahead looks for, from the beginning of a text on
abbrev pub part_of : MarkedPattern → List Part
part_of (lookahead n p) = record { negated = n; pattern = cat (look start) p } ∷ []
part_of p = []

-- the parts that lookaheads at the front are
abbrev pub fronts : MarkedPattern → List Part
fronts (cat p q) = fronts p ++ (if is_apart_behind (lead p) q then part_of q else [])
fronts p = []

-- the pattern without them
abbrev pub rest : MarkedPattern → MarkedPattern
rest (cat p q) = if is_apart_behind (lead p) q then rest p else cat (rest p) q
rest p = p

abbrev pub parts : MarkedPattern → List Part
parts p = record { negated = false; pattern = rest p } ∷ fronts p

-- each is found, or is not, as it is to be
abbrev pub AreFound : List Part → List ℕ → Type 0
AreFound [] text = ⊤
AreFound (x ∷ xs) text = Unless x.negated (Found x.pattern text) × AreFound xs text

-- of what is looked for of each
abbrev pub steps_of_parts : List Part → ℕ
steps_of_parts [] = 0
steps_of_parts (x ∷ xs) = search_steps (target x.pattern) + steps_of_parts xs
