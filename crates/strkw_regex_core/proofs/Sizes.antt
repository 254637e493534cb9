-- What is counted up to a limit of the parts is what is so counted of the whole.
use Rattle.std.proofs.Common.{◌≡◌, ℕ, zero, suc, ◌+◌, ◌*◌, ◌≤◌, nat_le, Bool, true, false, ◌&&◌, List, [], ◌∷◌, ◌++◌, if◌then◌else◌, refl, sym, ap}
use Rattle.std.proofs.Common.{◌∙◌, true≢false, arith}
use Rattle.std.proofs.lemmas.Bool.{leb-true, leb-false}
use Rattle.std.proofs.lemmas.Bool.Decides.{nat_tests}
use Rattle.strkw_regex_core.specs.machine.MarkedPattern.{MarkedPattern, empty, cat, alt, star, plus, lookbehind, lookahead}
use Rattle.strkw_regex_core.specs.machine.Times.{repetition}
use Rattle.strkw_regex_core.specs.machine.Program.{Instruction, other, join, star_end, plus_end, look_end, is_class, is_empty, glance, program, alternatives}
use Rattle.strkw_regex_core.specs.Size.{max_steps, max_term_steps}
use Rattle.strkw_regex_core.specs.machine.ProgramSteps.{steps_of, steps, spread, search_steps}
use Rattle.strkw_regex_core.specs.machine.OneCharLookahead.{are_told}
use Rattle.strkw_regex_core.specs.machine.Sizes.{cap_steps}
use Rattle.strkw_regex_core.proofs.Options.{by_class, by_option}

-- what is the same of all numbers beyond the most steps
abbrev IsFlat : {A : Type 0} → (ℕ → A) → Type 0
IsFlat f = (x y : ℕ) → max_steps + 1 ≤ x → max_steps + 1 ≤ y → f x ≡ f y

-- is the same of a number up to the limit as of the number
of_capped : {A : Type 0} (f : ℕ → A) → IsFlat f → (n : ℕ) → f (cap_steps n) ≡ f n
of_capped f flat n = by_order (nat_le n (max_steps + 1)) refl
  where
    -- the same by whether the number is within the limit
    by_order : (b : Bool) → nat_le n (max_steps + 1) ≡ b → f (cap_steps n) ≡ f n
    by_order true e = ap f (omega (arith, leb-true n (max_steps + 1) e))
    by_order false e =
        let h = leb-false n (max_steps + 1) e in
        flat (cap_steps n) n (omega (arith, h)) (omega (arith, h))

-- a number is at most so many times itself, where that is once or more
once_least : (n a : ℕ) → a ≤ suc n * a
once_least n a = omega arith

-- what is the same of all numbers beyond the limit is so of their multiples
flat_copies : {A : Type 0} (f : ℕ → A) → IsFlat f → (n : ℕ) → IsFlat (λ x. f (n * x))
flat_copies f flat zero x y h g = ap f (omega arith)
flat_copies f flat (suc n) x y h g =
    flat (suc n * x) (suc n * y) (omega (arith, h, once_least n x)) (omega (arith, g, once_least n y))

-- what is counted up to the limit is the same of all numbers beyond it
flat_capped : IsFlat cap_steps
flat_capped x y h g = omega (arith, h, g)

-- and so is the comparison with a number within the limit
flat_test : (most : ℕ) → most ≤ max_steps → IsFlat (λ x. nat_le x most)
flat_test most within x y h g = grind (arith, nat_tests)

-- the limits
-- a number is small enough for a whole exactly where it is so when counted up to the limit
pub small_whole : (n : ℕ) → nat_le (cap_steps n) max_steps ≡ nat_le n max_steps
small_whole n = of_capped (λ x. nat_le x max_steps) (flat_test max_steps (omega arith)) n

-- so many copies are small enough for a term exactly where they are so with one so counted
pub small_term : (k n : ℕ) → nat_le (k * cap_steps n) max_term_steps ≡ nat_le (k * n) max_term_steps
small_term k n =
    let flat = flat_test max_term_steps (omega arith) in
    of_capped (λ x. nat_le (k * x) max_term_steps) (flat_copies (λ x. nat_le x max_term_steps) flat k) n

-- sums and products
-- counted up to the limit, a sum is that of its first two numbers so counted, and the third
pub sum_capped : (a b c x y : ℕ) → x ≡ cap_steps a → y ≡ cap_steps b → cap_steps (x + y + c) ≡ cap_steps (a + b + c)
sum_capped a b c x y e f = omega (arith, e, f)

-- the same of one number and a third
pub more_capped : (a c x : ℕ) → x ≡ cap_steps a → cap_steps (0 + x + c) ≡ cap_steps (a + c)
more_capped a c x e = omega (arith, e)

-- and of a product, whose second number is so counted
product_capped : (n a : ℕ) → cap_steps (n * cap_steps a) ≡ cap_steps (n * a)
product_capped n a = of_capped (λ x. cap_steps (n * x)) (flat_copies cap_steps flat_capped n) a

-- the steps of a pattern by those of its parts
-- the steps of instructions one behind another add up
more_steps : (xs ys : List Instruction) → steps_of (xs ++ ys) ≡ steps_of xs + steps_of ys
more_steps [] ys = omega arith
more_steps (i ∷ xs) ys = omega (arith, more_steps xs ys)

-- two patterns one behind the other take the steps of both
pub cat_steps : (p q : MarkedPattern) → steps (cat p q) ≡ steps p + steps q
cat_steps p q = more_steps (program p) (program q)

-- two alternatives that are not one instruction take three steps more than what stands for both
pub alt_steps : (p q : MarkedPattern) → (is_empty p && is_class q) ≡ false
    → steps (alt p q) ≡ steps_of (alternatives p) + steps q + 3
alt_steps p q h =
    by_option (λ is. steps_of is ≡ steps_of (alternatives p) + steps q + 3) p q _ _
    (λ m n rs e f. absurd (true≢false (rw (e, f) at h)))
    (omega (arith, more_steps (alternatives p) (other ∷ (program q ++ (join ∷ []))), more_steps (program q) (join ∷ [])))

-- what may be missing takes three steps more, where it is no class
pub option_steps : (p : MarkedPattern) → is_class p ≡ false → steps (alt empty p) ≡ steps p + 3
option_steps p h = omega (arith, alt_steps empty p h)

-- among alternatives two of them take one step more than what stands for both
pub beside_steps : (p q : MarkedPattern) → steps_of (alternatives (alt p q)) ≡ steps_of (alternatives p) + steps q + 1
beside_steps p q = omega (arith, more_steps (alternatives p) (other ∷ program q))

-- a star takes two steps more than its body, where that is no class
pub star_steps : (p : MarkedPattern) → is_class p ≡ false → steps (star p) ≡ steps p + 2
star_steps p h =
    by_class (λ is. steps_of is ≡ steps p + 2) p _ _ (λ m n rs e. absurd (true≢false (rw e at h)))
    (omega (arith, more_steps (program p) (star_end ∷ [])))

-- and so does a plus
pub plus_steps : (p : MarkedPattern) → is_class p ≡ false → steps (plus p) ≡ steps p + 2
plus_steps p h =
    by_class (λ is. steps_of is ≡ steps p + 2) p _ _ (λ m n rs e. absurd (true≢false (rw e at h)))
    (omega (arith, more_steps (program p) (plus_end ∷ [])))

-- a lookbehind takes two steps more than what it looks for
pub behind_steps : (n : Bool) (p : MarkedPattern) → steps (lookbehind n p) ≡ steps p + 2
behind_steps n p = omega (arith, more_steps (program p) (look_end n ∷ []))

-- what is repeated takes so many times its steps
pub repeated_steps : (n : ℕ) (p : MarkedPattern) → steps (repetition n p) ≡ n * steps p
repeated_steps zero p = omega arith
repeated_steps (suc n) p = omega (arith, cat_steps p (repetition n p), repeated_steps n p)

-- and up to the limit
-- of two patterns one behind the other, from those of each so counted
pub both_steps : (p q : MarkedPattern) (x y : ℕ) → x ≡ cap_steps (steps p) → y ≡ cap_steps (steps q)
    → cap_steps (x + y + 0) ≡ cap_steps (steps (cat p q))
both_steps p q x y e f = omega (arith, sum_capped (steps p) (steps q) 0 x y e f, cat_steps p q)

-- and of what is repeated
pub copies_steps : (n : ℕ) (p : MarkedPattern) (x : ℕ) → x ≡ cap_steps (steps p) → cap_steps (n * x) ≡ cap_steps (steps (repetition n p))
copies_steps n p x e =
    ap (λ (y : ℕ). cap_steps (n * y)) e ∙ product_capped n (steps p) ∙ ap cap_steps (sym (repeated_steps n p))

-- a lookahead takes two steps more than a glance of what it looks for
pub ahead_steps : (n : Bool) (p : MarkedPattern) → steps (lookahead n p) ≡ steps_of (glance p) + 2
ahead_steps n p = omega (arith, more_steps (glance p) (look_end n ∷ []))

-- and a glance of two alternatives three more than both
pub glance_alt_steps : (p q : MarkedPattern) → steps_of (glance (alt p q)) ≡ steps_of (glance p) + steps_of (glance q) + 3
glance_alt_steps p q = omega (arith, more_steps (glance p) (other ∷ (glance q ++ (join ∷ []))), more_steps (glance q) (join ∷ []))

-- a glance of what may be missing takes three more than one of it
pub glance_option_steps : (p : MarkedPattern) → steps_of (glance (alt empty p)) ≡ steps_of (glance p) + 3
glance_option_steps p = omega (arith, glance_alt_steps empty p)

-- what has its lookaheads told takes the steps of its program
pub told_steps : (p : MarkedPattern) → are_told p ≡ true → search_steps p ≡ steps p
told_steps p h = ap (λ (b : Bool). if b then steps p else steps (spread p)) h

-- and else those of one with a mark beside what each lookaround looks for
pub far_steps : (p : MarkedPattern) → are_told p ≡ false → search_steps p ≡ steps (spread p)
far_steps p h = ap (λ (b : Bool). if b then steps p else steps (spread p)) h
