-- No class of a pattern that is read bears a mark, nor does one of its parts.
use Rattle.std.proofs.Common.{◌≡◌, Bool, true, false, List, [], ◌∷◌, ◌++◌, refl, if◌then◌else◌}
use Rattle.strkw_regex_core.specs.Tree.{start}
use Rattle.strkw_regex_core.specs.Tree.{Pattern}
use Rattle.strkw_regex_core.specs.Tree as tree
use Rattle.strkw_regex_core.specs.machine.Expansion.{expand}
use Rattle.strkw_regex_core.specs.machine.Times.{times_of}
use Rattle.strkw_regex_core.specs.machine.MarkedPattern.{MarkedPattern, empty, class, look, cat, alt, star, plus, lookbehind, lookahead}
use Rattle.strkw_regex_core.specs.machine.LeadingLookahead.{Part, lead, is_apart_behind, part_of, fronts, rest, parts}
use Rattle.strkw_regex_core.specs.machine.Mirror.{target}
use Rattle.strkw_regex_core.specs.machine.Positions.{is_unmarked}
use Rattle.strkw_regex_search.specs.machine.Search.{are_parts_clean}
use Rattle.strkw_charset.proofs.Booleans.{and_true, and_left, and_right}
use Rattle.strkw_regex_core.proofs.Unmarked.{unmarked_times, rest_unmarked, sought_unmarked}

-- what a pattern is expanded to has none
pub unmarked_expansion : (p : Pattern) → is_unmarked (expand p) ≡ true
unmarked_expansion tree.empty = refl
unmarked_expansion (tree.class n rs) = refl
unmarked_expansion (tree.look l) = refl
unmarked_expansion (tree.cat p q) = and_true _ _ (unmarked_expansion p) (unmarked_expansion q)
unmarked_expansion (tree.alt p q) = and_true _ _ (unmarked_expansion p) (unmarked_expansion q)
unmarked_expansion (tree.repeat min max p) = unmarked_times (times_of min max) (expand p) (unmarked_expansion p)
unmarked_expansion (tree.lookbehind n p) = unmarked_expansion p
unmarked_expansion (tree.lookahead n p) = unmarked_expansion p

-- parts one behind another have none where none of them has
clean_append : (xs ys : List Part) → are_parts_clean xs ≡ true → are_parts_clean ys ≡ true → are_parts_clean (xs ++ ys) ≡ true
clean_append [] ys h g = g
clean_append (x ∷ xs) ys h g = and_true _ _ (and_left _ _ h) (clean_append xs ys (and_right (is_unmarked (target x.pattern)) _ h) g)

-- the part of a lookahead has none
part_clean : (q : MarkedPattern) → is_unmarked q ≡ true → are_parts_clean (part_of q) ≡ true
part_clean empty h = refl
part_clean (class m n rs) h = refl
part_clean (look l) h = refl
part_clean (cat p q) h = refl
part_clean (alt p q) h = refl
part_clean (star p) h = refl
part_clean (plus p) h = refl
part_clean (lookbehind n p) h = refl
part_clean (lookahead n p) h = and_true _ _ (sought_unmarked (cat (look start) p) h) refl

-- nor have those at the front
fronts_clean : (p : MarkedPattern) → is_unmarked p ≡ true → are_parts_clean (fronts p) ≡ true
fronts_clean empty h = refl
fronts_clean (class m n rs) h = refl
fronts_clean (look l) h = refl
fronts_clean (cat p q) h = clean_append (fronts p) _ (fronts_clean p (and_left _ _ h)) (by_test (is_apart_behind (lead p) q))
  where
    -- by whether the second is one
    by_test : (b : Bool) → are_parts_clean (if b then part_of q else []) ≡ true
    by_test true = part_clean q (and_right (is_unmarked p) _ h)
    by_test false = refl
fronts_clean (alt p q) h = refl
fronts_clean (star p) h = refl
fronts_clean (plus p) h = refl
fronts_clean (lookbehind n p) h = refl
fronts_clean (lookahead n p) h = refl

-- the parts of what has no marks have none
pub parts_clean : (p : MarkedPattern) → is_unmarked p ≡ true → are_parts_clean (parts p) ≡ true
parts_clean p h = and_true _ _ (sought_unmarked (rest p) (rest_unmarked p h)) (fronts_clean p h)
