-- The marks of a pattern: at a place of the text they stand at the classes that have just read the
-- character before it.
use Rattle.std.specs.Prelude.{◌≡◌, ◌↔◌, ℕ, ◌+◌, ◌<◌, ◌≤◌, get_or, drop, Bool, true, false, ◌&&◌}
use Rattle.std.specs.Prelude.{◌||◌, not, ◌⊎◌, List, [], ◌∷◌, ◌++◌, length, Option, Some, None}
use Rattle.strkw_regex_core.specs.machine.MarkedPattern.{MarkedPattern, empty, class, look, cat}
use Rattle.strkw_regex_core.specs.machine.MarkedPattern.{alt, star, plus}
use Rattle.strkw_regex_core.specs.machine.MarkedPattern.{lookbehind, lookahead}
use Rattle.strkw_charset.specs.Membership.{differ, is_member}
use Rattle.strkw_regex_core.specs.machine.MarkedMeaning.{Rounds, Matches}
use Rattle.strkw_regex_core.specs.Meaning.{holds}
use Rattle.strkw_charset.specs.declared.tree.CharSet.{CharSet}

-- there is a character, and the class has it
abbrev pub reads : Option ℕ → Bool → List CharSet → Bool
reads None n rs = false
reads (Some c) n rs = is_member n rs c

module _ (b a : Option ℕ) where
  -- whether a glance (`is_glance`) matches from between b and a on
  abbrev pub sees : MarkedPattern → Bool
  sees empty = true
  sees (class m n rs) = reads a n rs
  sees (look l) = holds l b a
  sees (cat p q) = sees q
  sees (alt p q) = sees p || sees q
  sees (star p) = true
  sees (plus p) = true
  sees (lookbehind n p) = true
  sees (lookahead n p) = differ n (sees p)

-- Here `see` says of a lookahead whether what it looks for is there.
module _ (see : MarkedPattern → Bool) (b a : Option ℕ) where
  -- Between the characters b and a: does a way through the pattern end here that went on from a
  -- mark or, where `enters` holds, began here?
  abbrev pub leaves_by : MarkedPattern → Bool → Bool
  leaves_by empty enters = enters
  leaves_by (class m n rs) enters = m
  leaves_by (look l) enters = enters && holds l b a
  leaves_by (cat p q) enters = leaves_by q (leaves_by p enters)
  leaves_by (alt p q) enters = leaves_by p enters || leaves_by q enters
  leaves_by (star p) enters = enters || leaves_by p false
  leaves_by (plus p) enters = leaves_by p (enters || leaves_by p false)
  -- entered at each place
  leaves_by (lookbehind n p) enters = enters && differ n (leaves_by p true)
  leaves_by (lookahead n p) enters = enters && differ n (see p)

  -- the marks after the character a is read
  abbrev pub step_by : MarkedPattern → Bool → MarkedPattern
  step_by empty enters = empty
  step_by (class m n rs) enters = class (enters && reads a n rs) n rs
  step_by (look l) enters = look l
  step_by (cat p q) enters = cat (step_by p enters) (step_by q (leaves_by p enters))
  step_by (alt p q) enters = alt (step_by p enters) (step_by q enters)
  step_by (star p) enters = star (step_by p (enters || leaves_by p false))
  step_by (plus p) enters = plus (step_by p (enters || leaves_by p false))
  step_by (lookbehind n p) enters = lookbehind n (step_by p true)
  step_by (lookahead n p) enters = lookahead n p

-- where the next character tells what lookaheads look for
module _ (b a : Option ℕ) where
  abbrev pub leaves : MarkedPattern → Bool → Bool
  leaves = leaves_by (sees b a) b a

  abbrev pub step : MarkedPattern → Bool → MarkedPattern
  step = step_by (sees b a) b a

-- at place i a way through the pattern goes on from some mark, and ends at j
abbrev pub Rest : List ℕ → MarkedPattern → ℕ → ℕ → Type 0
Rest text empty i j = ⊥
Rest text (class m n rs) i j = (m ≡ true) × (i ≡ j)
Rest text (look l) i j = ⊥
Rest text (cat p q) i j = ((l : ℕ) × Rest text p i l × Matches text q l j) ⊎ Rest text q i j
Rest text (alt p q) i j = Rest text p i j ⊎ Rest text q i j
Rest text (star p) i j = (l : ℕ) × Rest text p i l × Rounds (Matches text p) j l
Rest text (plus p) i j = (l : ℕ) × Rest text p i l × Rounds (Matches text p) j l
Rest text (lookbehind n p) i j = ⊥
Rest text (lookahead n p) i j = ⊥

-- the pattern matches up to j from some place before i, and j is not before i
abbrev pub Crosses : List ℕ → MarkedPattern → ℕ → ℕ → Type 0
Crosses text p i j = (k : ℕ) × (k < i) × (i ≤ j) × Matches text p k j

-- Here `see` says at each place of a lookahead whether what it looks for is there.
module _ (see : ℕ → MarkedPattern → Bool) where
  -- what is said is so
  abbrev pub IsToldBy : List ℕ → MarkedPattern → Type 0
  IsToldBy text p = (i : ℕ) → i ≤ length text
      → (see i p ≡ true) ↔ ((k : ℕ) × Matches text p i k)

  -- the marks within lookbehinds at place i are those of all ways that have begun before i, and
  -- what is said of lookaheads is so
  abbrev pub Kept : List ℕ → MarkedPattern → ℕ → Type 0
  Kept text empty i = Unit {0}
  Kept text (class m n rs) i = Unit {0}
  Kept text (look l) i = Unit {0}
  Kept text (cat p q) i = Kept text p i × Kept text q i
  Kept text (alt p q) i = Kept text p i × Kept text q i
  Kept text (star p) i = Kept text p i
  Kept text (plus p) i = Kept text p i
  Kept text (lookbehind n p) i = Kept text p i × ((j : ℕ) → Rest text p i j ↔ Crosses text p i j)
  Kept text (lookahead n p) i = IsToldBy text p

-- at place k a match is under way, or one begins at k or later
abbrev pub Later : List ℕ → MarkedPattern → ℕ → Type 0
Later text p k = ((j : ℕ) × Rest text p k j)
    ⊎ ((i j : ℕ) × (k ≤ i) × (i ≤ length text) × Matches text p i j)

-- how many classes stand in a pattern, outside lookaheads
abbrev pub classes : MarkedPattern → ℕ
classes empty = 0
classes (class m n rs) = 1
classes (look l) = 0
classes (cat p q) = classes p + classes q
classes (alt p q) = classes p + classes q
classes (star p) = classes p
classes (plus p) = classes p
classes (lookbehind n p) = classes p
classes (lookahead n p) = 0

-- the pattern with the first marks of a list, in the order of its classes
abbrev pub mark_classes : List Bool → MarkedPattern → MarkedPattern
mark_classes ms empty = empty
mark_classes ms (class m n rs) = class (get_or ms 0 false) n rs
mark_classes ms (look l) = look l
mark_classes ms (cat p q) = cat (mark_classes ms p) (mark_classes (drop (classes p) ms) q)
mark_classes ms (alt p q) = alt (mark_classes ms p) (mark_classes (drop (classes p) ms) q)
mark_classes ms (star p) = star (mark_classes ms p)
mark_classes ms (plus p) = plus (mark_classes ms p)
mark_classes ms (lookbehind n p) = lookbehind n (mark_classes ms p)
mark_classes ms (lookahead n p) = lookahead n p

-- no class bears a mark
abbrev pub is_clean : MarkedPattern → Bool
is_clean empty = true
is_clean (class m n rs) = not m
is_clean (look l) = true
is_clean (cat p q) = is_clean p && is_clean q
is_clean (alt p q) = is_clean p && is_clean q
is_clean (star p) = is_clean p
is_clean (plus p) = is_clean p
is_clean (lookbehind n p) = is_clean p
is_clean (lookahead n p) = true

-- no class bears a mark, in lookaheads as elsewhere
abbrev pub is_unmarked : MarkedPattern → Bool
is_unmarked empty = true
is_unmarked (class m n rs) = not m
is_unmarked (look l) = true
is_unmarked (cat p q) = is_unmarked p && is_unmarked q
is_unmarked (alt p q) = is_unmarked p && is_unmarked q
is_unmarked (star p) = is_unmarked p
is_unmarked (plus p) = is_unmarked p
is_unmarked (lookbehind n p) = is_unmarked p
is_unmarked (lookahead n p) = is_unmarked p

-- the marks of a pattern, in the order of its classes
abbrev pub marks_of : MarkedPattern → List Bool
marks_of empty = []
marks_of (class m n rs) = m ∷ []
marks_of (look l) = []
marks_of (cat p q) = marks_of p ++ marks_of q
marks_of (alt p q) = marks_of p ++ marks_of q
marks_of (star p) = marks_of p
marks_of (plus p) = marks_of p
marks_of (lookbehind n p) = marks_of p
marks_of (lookahead n p) = []
