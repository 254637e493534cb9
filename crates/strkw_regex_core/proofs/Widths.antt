-- The steps of a pattern as it is, or with a mark beside what each lookaround looks for, by those of its parts.
use Rattle.std.proofs.Common.{◌≡◌, ℕ, zero, suc, ◌+◌, ◌-◌, Bool, true, false, List, refl, sym, ap, ◌∙◌, if◌then◌else◌, arith}
use Rattle.strkw_regex_core.specs.machine.MarkedPattern.{MarkedPattern, empty, class, cat, alt, star, lookbehind, lookahead}
use Rattle.strkw_charset.specs.declared.tree.CharSet.{CharSet}
use Rattle.strkw_regex_core.specs.machine.Times.{Times, any_times, some_times, once_at_most, exact_times, least_times, range_times, repetition}
use Rattle.strkw_regex_core.specs.machine.Times.{quantified_pattern}
use Rattle.strkw_regex_core.specs.machine.Program.{is_class, is_empty, alternatives}
use Rattle.strkw_regex_core.specs.machine.ProgramSteps.{steps_of, steps, spread}
use Rattle.strkw_regex_core.specs.machine.Sizes.{cap_steps, spread_if}
use Rattle.strkw_regex_core.proofs.PatternEquivalences.{spread_nothing, spread_class, spread_look}
use Rattle.strkw_regex_core.proofs.Sizes.{behind_steps}

-- of two, one behind the other
pub cat_if : (b : Bool) (p q : MarkedPattern) → spread_if b (cat p q) ≡ cat (spread_if b p) (spread_if b q)
cat_if true p q = refl
cat_if false p q = refl

-- of alternatives
pub alt_if : (b : Bool) (p q : MarkedPattern) → spread_if b (alt p q) ≡ alt (spread_if b p) (spread_if b q)
alt_if true p q = refl
alt_if false p q = refl

-- nothing is nothing
pub nothing_if : (b : Bool) → spread_if b empty ≡ empty
nothing_if true = refl
nothing_if false = refl

-- a pattern is that of nothing with marks exactly where it is without
pub same_nothing_if : (b : Bool) (p : MarkedPattern) → is_empty (spread_if b p) ≡ is_empty p
same_nothing_if true p = spread_nothing p
same_nothing_if false p = refl

-- a class is a class
pub class_if : (b m n : Bool) (rs : List CharSet) → spread_if b (class m n rs) ≡ class m n rs
class_if true m n rs = refl
class_if false m n rs = refl

-- and it is a class with marks exactly where it is one without
pub same_class_if : (b : Bool) (p : MarkedPattern) → is_class (spread_if b p) ≡ is_class p
same_class_if true p = spread_class p
same_class_if false p = refl

-- of what is repeated
copies_spread : (n : ℕ) (p : MarkedPattern) → spread (repetition n p) ≡ repetition n (spread p)
copies_spread zero p = refl
copies_spread (suc n) p = ap (cat (spread p)) (copies_spread n p)

-- marks go through a quantifier
pub times_spread : (t : Times) (p : MarkedPattern) → spread (quantified_pattern t p) ≡ quantified_pattern t (spread p)
times_spread any_times p = refl
times_spread some_times p = refl
times_spread once_at_most p = refl
times_spread (exact_times n) p = copies_spread n p
times_spread (least_times n) p = ap (λ (q : MarkedPattern). cat q (star (spread p))) (copies_spread n p)
times_spread (range_times n m) p =
    ap (λ (q : MarkedPattern). cat q (spread (repetition (m - n) (alt empty p)))) (copies_spread n p)
    ∙ ap (cat (repetition n (spread p))) (copies_spread (m - n) (alt empty p))

-- the same where there may be no marks
pub times_if : (b : Bool) (t : Times) (p : MarkedPattern) → spread_if b (quantified_pattern t p) ≡ quantified_pattern t (spread_if b p)
times_if true t p = times_spread t p
times_if false t p = refl

-- of lookarounds
pub behind_if : (b n : Bool) (p : MarkedPattern) → steps (spread_if b (lookbehind n p)) ≡ (if b then 1 else 0) + steps (spread_if b p) + 2
behind_if true n p = omega (arith, spread_look n (spread p))
behind_if false n p = omega (arith, behind_steps n p)

-- with its marks a lookahead has three steps more than what it looks for
pub ahead_if : (n : Bool) (p : MarkedPattern) → steps (spread (lookahead n p)) ≡ 1 + steps (spread p) + 2
ahead_if n p = omega (arith, spread_look n (spread p))

-- one mark is counted as it is
pub mark_capped : (b : Bool) → (if b then 1 else 0) ≡ cap_steps (if b then 1 else 0)
mark_capped true = omega arith
mark_capped false = omega arith

-- what is counted of a pattern in either form is counted of what it is
pub sized : (b : Bool) (p whole z : MarkedPattern) → whole ≡ p → spread_if b p ≡ z → cap_steps (steps z) ≡ cap_steps (steps (spread_if b whole))
sized b p whole z shape is =
    ap (λ (y : MarkedPattern). cap_steps (steps y)) (sym is) ∙ ap (λ (y : MarkedPattern). cap_steps (steps (spread_if b y))) (sym shape)

-- and so among alternatives
pub sized_beside : (b : Bool) (p whole z : MarkedPattern) → whole ≡ p → spread_if b p ≡ z
    → cap_steps (steps_of (alternatives z)) ≡ cap_steps (steps_of (alternatives (spread_if b whole)))
sized_beside b p whole z shape is =
    ap (λ (y : MarkedPattern). cap_steps (steps_of (alternatives y))) (sym is)
    ∙ ap (λ (y : MarkedPattern). cap_steps (steps_of (alternatives (spread_if b y)))) (sym shape)
