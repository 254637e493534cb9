-- Patterns whose lookaheads are put aside: a mark stands for each, which is told at each place.
use Rattle.std.specs.Prelude.{ℕ, ◌+◌, max, drop, get_or, Bool, false, List, [], ◌∷◌, ◌++◌, Option}
use Rattle.std.specs.Prelude.{Some, None}
use Rattle.strkw_regex_core.specs.machine.MarkedPattern.{MarkedPattern, empty, class, look, cat}
use Rattle.strkw_regex_core.specs.machine.MarkedPattern.{alt, star, plus}
use Rattle.strkw_regex_core.specs.machine.MarkedPattern.{lookbehind, lookahead}
use Rattle.strkw_regex_core.specs.machine.Times.{Times, any_times, some_times, once_at_most}
use Rattle.strkw_regex_core.specs.machine.Times.{exact_times}
use Rattle.strkw_regex_core.specs.machine.Times.{least_times, range_times}
use Rattle.strkw_regex_core.specs.machine.Positions.{classes}

-- what stands for a lookahead: a class without characters, whose mark is told
abbrev pub slot : Bool → Bool → MarkedPattern
slot n m = lookbehind n (class m false [])

-- the pattern with such a mark for each lookahead
module _ (see : MarkedPattern → Bool) where
  abbrev pub told : MarkedPattern → MarkedPattern
  told empty = empty
  told (class m n rs) = class m n rs
  told (look l) = look l
  told (cat p q) = cat (told p) (told q)
  told (alt p q) = alt (told p) (told q)
  told (star p) = star (told p)
  told (plus p) = plus (told p)
  told (lookbehind n p) = lookbehind n (told p)
  told (lookahead n p) = slot n (see p)

-- the same with none of these marks set
abbrev pub aside : MarkedPattern → MarkedPattern
aside = told (λ p. false)

-- for each class then, in order, what the lookahead looks for that it stands for, if for one
abbrev pub spots : MarkedPattern → List (Option MarkedPattern)
spots empty = []
spots (class m n rs) = None ∷ []
spots (look l) = []
spots (cat p q) = spots p ++ spots q
spots (alt p q) = spots p ++ spots q
spots (star p) = spots p
spots (plus p) = spots p
spots (lookbehind n p) = spots p
spots (lookahead n p) = Some p ∷ []

-- how many copies of what it repeats a pattern has
abbrev pub all_copies : Times → ℕ
all_copies any_times = 1
all_copies some_times = 1
all_copies once_at_most = 1
all_copies (exact_times n) = n
all_copies (least_times n) = n + 1
all_copies (range_times n m) = max n m

-- Marks that are told by their numbers: `now` says which are set.
module _ (now : ℕ → Bool) where
  abbrev pub told_mark : Option ℕ → Bool → Bool
  told_mark None m = m
  told_mark (Some k) m = now k

  -- the numbers are those of the classes, in order
  abbrev pub told_by : List (Option ℕ) → MarkedPattern → MarkedPattern
  told_by ts empty = empty
  told_by ts (class m n rs) = class (told_mark (get_or ts 0 None) m) n rs
  told_by ts (look l) = look l
  told_by ts (cat p q) = cat (told_by ts p) (told_by (drop (classes p) ts) q)
  told_by ts (alt p q) = alt (told_by ts p) (told_by (drop (classes p) ts) q)
  told_by ts (star p) = star (told_by ts p)
  told_by ts (plus p) = plus (told_by ts p)
  told_by ts (lookbehind n p) = lookbehind n (told_by ts p)
  told_by ts (lookahead n p) = lookahead n p
