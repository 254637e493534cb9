-- The pattern of a tree has no marks, nor have its parts.
use Rattle.std.proofs.Common.{◌≡◌, ℕ, zero, suc, Bool, true, false, ◌||◌, refl, if◌then◌else◌}
use Rattle.strkw_regex_core.specs.machine.MarkedPattern.{MarkedPattern, empty, class, look, cat, alt, star, plus, lookbehind, lookahead}
use Rattle.strkw_regex_core.specs.machine.Times.{Times, any_times, some_times, once_at_most, exact_times, least_times, range_times, repetition}
use Rattle.strkw_regex_core.specs.machine.Times.{quantified_pattern}
use Rattle.strkw_regex_core.specs.machine.LeadingLookahead.{lead, is_apart_behind, rest}
use Rattle.strkw_regex_core.specs.machine.Program.{is_empty}
use Rattle.strkw_regex_core.specs.machine.Mirror.{mirror, mirror_if, is_backward, target}
use Rattle.strkw_regex_core.specs.machine.Positions.{is_clean, is_unmarked}
use Rattle.strkw_charset.proofs.Booleans.{and_true, and_left, and_right}

-- a pattern without marks has none where it is repeated
unmarked_repeated : (n : ℕ) (p : MarkedPattern) → is_unmarked p ≡ true → is_unmarked (repetition n p) ≡ true
unmarked_repeated zero p h = refl
unmarked_repeated (suc n) p h = and_true _ _ h (unmarked_repeated n p h)

-- and none under a quantifier
pub unmarked_times : (t : Times) (p : MarkedPattern) → is_unmarked p ≡ true → is_unmarked (quantified_pattern t p) ≡ true
unmarked_times any_times p h = h
unmarked_times some_times p h = h
unmarked_times once_at_most p h = h
unmarked_times (exact_times n) p h = unmarked_repeated n p h
unmarked_times (least_times n) p h = and_true _ _ (unmarked_repeated n p h) h
unmarked_times (range_times n m) p h = and_true _ _ (unmarked_repeated n p h) (unmarked_repeated _ (alt empty p) h)

-- parts
-- what has no marks has none outside lookaheads
pub clean_unmarked : (p : MarkedPattern) → is_unmarked p ≡ true → is_clean p ≡ true
clean_unmarked empty h = refl
clean_unmarked (class m n rs) h = h
clean_unmarked (look l) h = refl
clean_unmarked (cat p q) h = and_true _ _ (clean_unmarked p (and_left _ _ h)) (clean_unmarked q (and_right (is_unmarked p) _ h))
clean_unmarked (alt p q) h = and_true _ _ (clean_unmarked p (and_left _ _ h)) (clean_unmarked q (and_right (is_unmarked p) _ h))
clean_unmarked (star p) h = clean_unmarked p h
clean_unmarked (plus p) h = clean_unmarked p h
clean_unmarked (lookbehind n p) h = clean_unmarked p h
clean_unmarked (lookahead n p) h = refl

-- nor has the rest of it
pub rest_unmarked : (p : MarkedPattern) → is_unmarked p ≡ true → is_unmarked (rest p) ≡ true
rest_unmarked empty h = refl
rest_unmarked (class m n rs) h = h
rest_unmarked (look l) h = refl
rest_unmarked (cat p q) h = by_test (rest_unmarked p (and_left _ _ h)) (is_apart_behind (lead p) q)
  where
    -- by whether the second is a part of its own
    by_test : is_unmarked (rest p) ≡ true → (b : Bool) → is_unmarked (if b then rest p else cat (rest p) q) ≡ true
    by_test first true = first
    by_test first false = and_true _ _ first (and_right (is_unmarked p) _ h)
rest_unmarked (alt p q) h = h
rest_unmarked (star p) h = h
rest_unmarked (plus p) h = h
rest_unmarked (lookbehind n p) h = h
rest_unmarked (lookahead n p) h = h

-- nor has its mirror
pub mirror_unmarked : (p : MarkedPattern) → is_unmarked p ≡ true → is_unmarked (mirror p) ≡ true
mirror_unmarked empty h = refl
mirror_unmarked (class m n rs) h = h
mirror_unmarked (look l) h = refl
mirror_unmarked (cat p q) h =
    by_test (is_empty p || is_empty q) (mirror_unmarked p (and_left _ _ h)) (mirror_unmarked q (and_right (is_unmarked p) _ h))
  where
    -- by whether one of the two is nothing
    by_test : (b : Bool) → is_unmarked (mirror p) ≡ true → is_unmarked (mirror q) ≡ true
        → is_unmarked (if b then cat (mirror p) (mirror q) else cat (mirror q) (mirror p)) ≡ true
    by_test true first second = and_true _ _ first second
    by_test false first second = and_true _ _ second first
mirror_unmarked (alt p q) h = and_true _ _ (mirror_unmarked p (and_left _ _ h)) (mirror_unmarked q (and_right (is_unmarked p) _ h))
mirror_unmarked (star p) h = mirror_unmarked p h
mirror_unmarked (plus p) h = mirror_unmarked p h
mirror_unmarked (lookbehind n p) h = mirror_unmarked p h
mirror_unmarked (lookahead n p) h = mirror_unmarked p h

-- so it has none, looked for from either end
pub facing_unmarked : (b : Bool) (p : MarkedPattern) → is_unmarked p ≡ true → is_unmarked (mirror_if b p) ≡ true
facing_unmarked false p h = h
facing_unmarked true p h = mirror_unmarked p h

-- and what is looked for of it has none
pub sought_unmarked : (p : MarkedPattern) → is_unmarked p ≡ true → is_unmarked (target p) ≡ true
sought_unmarked p h = facing_unmarked (is_backward p) p h
