-- Patterns as trees of the grammar have them, and what a quantifier by its bounds repeats.
use Rattle.std.proofs.Common.{◌≡◌, ℕ, zero, suc, ◌+◌, ◌-◌, ◌*◌, ◌≤◌, nat_le, ◌==◌, Bool, true, false, ◌&&◌, ◌||◌, Option, Some, None, if◌then◌else◌}
use Rattle.std.proofs.Common.{refl, sym, ap, ◌∙◌, true≢false, arith}
use Rattle.std.proofs.lemmas.Bool.{eqb-true}
use Rattle.std.proofs.lemmas.Bool.Decides.{nat_tests}
use Rattle.strkw_charset.proofs.Booleans.{and_left, and_right}
use Rattle.strkw_regex_core.specs.Near as near
use Rattle.strkw_regex_core.specs.Size as size
use Rattle.strkw_regex_core.specs.Tree.{Pattern}
use Rattle.strkw_regex_core.specs.Tree as tree
use Rattle.strkw_regex_core.specs.machine.Expansion.{expand}
use Rattle.strkw_regex_core.specs.machine.MarkedPattern.{MarkedPattern, empty, class, alt, star, plus}
use Rattle.strkw_regex_core.specs.machine.OneCharLookahead.{is_glance, are_told}
use Rattle.strkw_regex_core.specs.machine.Program.{is_class, is_empty, glance}
use Rattle.strkw_regex_core.specs.machine.ProgramSteps.{steps_of, steps}
use Rattle.strkw_regex_core.specs.machine.Shape.{is_never}
use Rattle.strkw_regex_core.specs.machine.Times.{Times, any_times, some_times, once_at_most, exact_times, least_times, range_times, repetition}
use Rattle.strkw_regex_core.specs.machine.Times.{times_of, copies, quantified_pattern}
use Rattle.strkw_regex_core.proofs.PatternEquivalences.{option_class}
use Rattle.strkw_regex_core.proofs.Shapes.{glance_copies, is_no_copy, never_told, no_class, no_glance, same_told}
use Rattle.strkw_regex_core.proofs.Sizes.{cat_steps, glance_option_steps, option_steps, plus_steps, repeated_steps, star_steps}

-- it is what is repeated
abbrev pub is_repeat : Pattern → Bool
is_repeat (tree.repeat min max p) = true
is_repeat p = false

-- it is one character of a class
abbrev pub is_one : Pattern → Bool
is_one (tree.class n rs) = true
is_one p = false

-- nothing that is repeated begins a sequence or alternatives, or is repeated, and no alternative behind another is a class
abbrev pub AreTerms : Pattern → Type 0
AreTerms tree.empty = Unit {0}
AreTerms (tree.class n rs) = Unit {0}
AreTerms (tree.look l) = Unit {0}
AreTerms (tree.cat p q) = (is_repeat p ≡ false) × AreTerms p × AreTerms q
AreTerms (tree.alt p q) = (is_repeat p ≡ false) × (is_one q ≡ false) × AreTerms p × AreTerms q
AreTerms (tree.repeat min max p) = (is_repeat p ≡ false) × AreTerms p
AreTerms (tree.lookbehind n p) = AreTerms p
AreTerms (tree.lookahead n p) = AreTerms p

-- what is not repeated is nothing where what stands for it is
pub empty_expanded : (p : Pattern) → is_repeat p ≡ false → is_empty (expand p) ≡ near.is_empty p
empty_expanded tree.empty h = refl
empty_expanded (tree.class n rs) h = refl
empty_expanded (tree.look l) h = refl
empty_expanded (tree.cat p q) h = refl
empty_expanded (tree.alt p q) h = refl
empty_expanded (tree.repeat min max p) h = absurd (true≢false h)
empty_expanded (tree.lookbehind n p) h = refl
empty_expanded (tree.lookahead n p) h = refl

-- and a pattern is a class where that is
pub class_expanded : (p : Pattern) → is_class (expand p) ≡ is_one p
class_expanded tree.empty = refl
class_expanded (tree.class n rs) = refl
class_expanded (tree.look l) = refl
class_expanded (tree.cat p q) = refl
class_expanded (tree.alt p q) = refl
class_expanded (tree.repeat min max p) = no_class (times_of min max) (expand p)
class_expanded (tree.lookbehind n p) = refl
class_expanded (tree.lookahead n p) = refl

-- nothing holds together with what does not
pub and_false : (x : Bool) → (x && false) ≡ false
and_false true = refl
and_false false = refl

-- no number is the other where it is none and the other is one
not_both : (n m : ℕ) → (n == m) ≡ true → (n == 0 && m == 1) ≡ true → ⊥
not_both n m e g =
    omega (arith, eqb-true n m e, eqb-true n 0 (and_left (n == 0) _ g), eqb-true m 1 (and_right (n == 0) _ g))

-- a number with one more is not none
some_copy : (n : ℕ) → (suc n == 0) ≡ false
some_copy n = grind (arith, nat_tests)

-- by the kind of the quantifier with these bounds
by_bounds : (P : Times → Type 0) (min m : ℕ)
    → ((min == m) ≡ true → (min == 0 && m == 1) ≡ false → P (exact_times min))
    → ((min == m) ≡ false → (min == 0 && m == 1) ≡ true → P once_at_most)
    → ((min == m) ≡ false → (min == 0 && m == 1) ≡ false → P (range_times min m))
    → P (times_of min (Some m))
by_bounds P min m exact once range = by_test (min == m) (min == 0 && m == 1) refl refl
  where
    -- by what the bounds are
    by_test : (b c : Bool) → (min == m) ≡ b → (min == 0 && m == 1) ≡ c → P (if b then exact_times min else if c then once_at_most else range_times min m)
    by_test true true e g = absurd (not_both min m e g)
    by_test true false e g = exact e g
    by_test false true e g = once e g
    by_test false false e g = range e g

-- the same where there is no most
by_least : (P : Times → Type 0) (min : ℕ) → ((min == 0) ≡ true → P any_times) → ((min == 1) ≡ true → P some_times)
    → ((min == 0) ≡ false → (min == 1) ≡ false → P (least_times min)) → P (times_of min None)
by_least P min any some least = by_test (min == 0) (min == 1) refl refl
  where
    -- by what the least is
    by_test : (b c : Bool) → (min == 0) ≡ b → (min == 1) ≡ c → P (if b then any_times else if c then some_times else least_times min)
    by_test true c e g = any e
    by_test false true e g = some g
    by_test false false e g = least e g

-- the copies of a quantifier
pub copies_of : (min : ℕ) (max : Option ℕ) → copies (times_of min max) ≡ size.copies min max
copies_of min None =
    by_least (λ t. copies t ≡ size.copies min None) min
    (λ e. sym (ap (λ (b : Bool). if b then 1 else min + 1) (few (omega (arith, eqb-true min 0 e)))))
    (λ e. sym (ap (λ (b : Bool). if b then 1 else min + 1) (few (omega (arith, eqb-true min 1 e)))))
    (λ e g. let many : nat_le min 1 ≡ false = grind (arith, nat_tests) in sym (ap (λ (b : Bool). if b then 1 else min + 1) many))
  where
    -- one at most
    few : min ≤ 1 → nat_le min 1 ≡ true
    few h = grind (arith, nat_tests)
copies_of min (Some m) =
    by_bounds (λ t. copies t ≡ m) min m (λ e g. eqb-true min m e) (λ e g. sym (eqb-true m 1 (and_right (min == 0) _ g))) (λ e g. refl)

-- what is repeated is nothing where there is no round
pub empty_times : (min : ℕ) (max : Option ℕ) (p : MarkedPattern) → is_empty (quantified_pattern (times_of min max) p) ≡ near.is_never min max
empty_times min None p = by_least (λ t. is_empty (quantified_pattern t p) ≡ false) min (λ e. refl) (λ e. refl) (λ e g. refl)
empty_times min (Some m) p =
    by_bounds (λ t. is_empty (quantified_pattern t p) ≡ (min == 0 && m == 0)) min m
    (λ e g. sym (is_no_copy min p) ∙ grind (arith, nat_tests)) (λ e g. grind (arith, nat_tests)) (λ e g. grind (arith, nat_tests))

-- and so has it no copy
never_times : (min : ℕ) (max : Option ℕ) → is_never (times_of min max) ≡ near.is_never min max
never_times min None = by_least (λ t. is_never t ≡ false) min (λ e. refl) (λ e. refl) (λ e g. refl)
never_times min (Some m) =
    by_bounds (λ t. is_never t ≡ (min == 0 && m == 0)) min m (λ e g. grind (arith, nat_tests)) (λ e g. grind (arith, nat_tests)) (λ e g. refl)

-- its lookaheads are told where there is none, or those of what is repeated are
pub told_by_bounds : (min : ℕ) (max : Option ℕ) (p : MarkedPattern)
    → are_told (quantified_pattern (times_of min max) p) ≡ (near.is_never min max || are_told p)
told_by_bounds min max p = by_test (is_never (times_of min max)) refl
  where
    -- by whether there is no copy
    by_test : (b : Bool) → is_never (times_of min max) ≡ b
        → are_told (quantified_pattern (times_of min max) p) ≡ (near.is_never min max || are_told p)
    by_test true e = never_told (times_of min max) p e ∙ sym (ap (λ (b : Bool). b || are_told p) (sym (never_times min max) ∙ e))
    by_test false e = sym (same_told (times_of min max) p e) ∙ sym (ap (λ (b : Bool). b || are_told p) (sym (never_times min max) ∙ e))

-- copies are a glance where there are none, or are copies of nothing
exact_near : (n : ℕ) (p : MarkedPattern) → is_glance (repetition n p) ≡ (n == 0 || is_empty p)
exact_near zero p = refl
exact_near (suc n) p =
    sym (glance_copies (suc n) p (some_copy n)) ∙ sym (ap (λ (b : Bool). b || is_empty p) (some_copy n))

-- where some may be missing they are none
range_near : (n m : ℕ) (p : MarkedPattern) → (n == m) ≡ false → is_glance (quantified_pattern (range_times n m) p) ≡ false
range_near zero zero p e = absurd (true≢false e)
range_near zero (suc m) p e =
    let all : suc m - zero ≡ suc m = omega arith in
    ap (λ (k : ℕ). is_glance (repetition k (alt empty p))) all
range_near (suc n) m p e = refl

-- what is repeated is a glance where it may be missing and is one, or is a number of copies of nothing
pub near_by_bounds : (min : ℕ) (max : Option ℕ) (p : MarkedPattern) → is_glance (quantified_pattern (times_of min max) p)
    ≡ (if near.is_option min max then is_glance p else near.is_exact min max && (min == 0 || is_empty p))
near_by_bounds min None p =
    by_least (λ t. is_glance (quantified_pattern t p) ≡ false) min (λ e. refl) (λ e. refl) (λ e g. and_false (is_empty (repetition min p)))
near_by_bounds min (Some m) p =
    by_bounds (λ t. is_glance (quantified_pattern t p) ≡ (if min == 0 && m == 1 then is_glance p else min == m && (min == 0 || is_empty p))) min m
    (λ e g. exact_near min p ∙ sym (chosen true false e g)) (λ e g. sym (chosen false true e g)) (λ e g. range_near min m p e ∙ sym (chosen false false e g))
  where
    -- by what the bounds are
    chosen : (b c : Bool) → (min == m) ≡ b → (min == 0 && m == 1) ≡ c
        → (if min == 0 && m == 1 then is_glance p else min == m && (min == 0 || is_empty p)) ≡ (if c then is_glance p else b && (min == 0 || is_empty p))
    chosen b c e g =
        ap (λ (x : Bool). if x then is_glance p else min == m && (min == 0 || is_empty p)) g
        ∙ ap (λ (x : Bool). if c then is_glance p else x && (min == 0 || is_empty p)) e

-- a glance of it takes three steps more than one of what is repeated where that may be missing, and else none
pub glance_by_bounds : (min : ℕ) (max : Option ℕ) (p : MarkedPattern)
    → steps_of (glance (quantified_pattern (times_of min max) p)) ≡ (if near.is_option min max then steps_of (glance p) + 3 else 0)
glance_by_bounds min None p =
    by_least (λ t. steps_of (glance (quantified_pattern t p)) ≡ 0) min (λ e. refl) (λ e. refl) (λ e g. refl)
glance_by_bounds min (Some m) p =
    by_bounds (λ t. steps_of (glance (quantified_pattern t p)) ≡ (if min == 0 && m == 1 then steps_of (glance p) + 3 else 0)) min m
    (λ e g. ap steps_of (no_glance min p) ∙ sym (chosen false g)) (λ e g. glance_option_steps p ∙ sym (chosen true g))
    (λ e g. ap steps_of (no_glance (m - min) (alt empty p)) ∙ sym (chosen false g))
  where
    -- by what the bounds are
    chosen : (c : Bool) → (min == 0 && m == 1) ≡ c
        → (if min == 0 && m == 1 then steps_of (glance p) + 3 else 0) ≡ (if c then steps_of (glance p) + 3 else 0)
    chosen c g = ap (λ (x : Bool). if x then steps_of (glance p) + 3 else 0) g

-- a class takes its own steps where it is repeated without end
star_class : (p : MarkedPattern) → is_class p ≡ true → steps (star p) ≡ steps p
star_class (class m n rs) h = refl
star_class _ h = absurd (true≢false (sym h))

-- and so it does where that is once at least
plus_class : (p : MarkedPattern) → is_class p ≡ true → steps (plus p) ≡ steps p
plus_class (class m n rs) h = refl
plus_class _ h = absurd (true≢false (sym h))

-- the steps of a pattern that stands for another, where it is a class exactly where that is
module _ (p : Pattern) (whole : MarkedPattern) (class : is_class whole ≡ is_one p) where
  -- a class as it is, and else so many more
  more_steps : (x more : ℕ) → (is_class whole ≡ true → x ≡ steps whole) → (is_class whole ≡ false → x ≡ steps whole + more)
      → x ≡ size.more_unless_class p (steps whole) more
  more_steps x more one other = by_pattern p class
    where
      -- by whether it is a class
      by_pattern : (q : Pattern) → is_class whole ≡ is_one q → x ≡ size.more_unless_class q (steps whole) more
      by_pattern (tree.class n rs) e = one e
      by_pattern _ e = other e

  -- where it is repeated without end
  star_size : steps (star whole) ≡ size.more_unless_class p (steps whole) 2
  star_size = more_steps (steps (star whole)) 2 (star_class whole) (star_steps whole)

  plus_size : steps (plus whole) ≡ size.more_unless_class p (steps whole) 2
  plus_size = more_steps (steps (plus whole)) 2 (plus_class whole) (plus_steps whole)

  -- and where it may be missing
  option_size : steps (alt empty whole) ≡ size.more_unless_class p (steps whole) 3
  option_size = more_steps (steps (alt empty whole)) 3 (option_class empty whole) (option_steps whole)

  -- what is repeated, by its bounds
  pub repeated_by_bounds : (min : ℕ) (max : Option ℕ) → steps (quantified_pattern (times_of min max) whole) ≡ size.repeated_size min max p (steps whole)
  repeated_by_bounds min None =
      let one = size.more_unless_class p (steps whole) 2 in
      by_least (λ t. steps (quantified_pattern t whole) ≡ (if nat_le min 1 then 0 else min * steps whole) + one) min
      (λ e. let few : nat_le min 1 ≡ true = grind (arith, nat_tests) in omega (arith, star_size, ap (λ (b : Bool). if b then 0 else min * steps whole) few))
      (λ e. let few : nat_le min 1 ≡ true = grind (arith, nat_tests) in omega (arith, plus_size, ap (λ (b : Bool). if b then 0 else min * steps whole) few))
      (λ e g. let many : nat_le min 1 ≡ false = grind (arith, nat_tests) in
      omega (arith, star_size, cat_steps (repetition min whole) (star whole), repeated_steps min whole, ap (λ (b : Bool). if b then 0 else min * steps whole) many))
  repeated_by_bounds min (Some m) =
      let one = size.more_unless_class p (steps whole) 3 in
      by_bounds (λ t. steps (quantified_pattern t whole) ≡ min * steps whole + (m - min) * one) min m
      (λ e g. let none : m - min ≡ 0 = omega (arith, eqb-true min m e) in omega (arith, repeated_steps min whole, ap (λ (k : ℕ). k * one) none))
      (λ e g.
      let least : min ≡ 0 = eqb-true min 0 (and_left (min == 0) _ g) in
      let single : m - min ≡ 1 = omega (arith, least, eqb-true m 1 (and_right (min == 0) _ g)) in
      omega (arith, option_size, ap (λ (k : ℕ). k * steps whole) least, ap (λ (k : ℕ). k * one) single))
      (λ e g. omega (
        arith,
        cat_steps (repetition min whole) (repetition (m - min) (alt empty whole)),
        repeated_steps min whole,
        repeated_steps (m - min) (alt empty whole),
        ap (λ (k : ℕ). (m - min) * k) option_size,
      ))
