-- The equations of `outline_pattern`, one for each variant.
use Rattle.std.proofs.Common.{◌≡◌, ℕ, zero, suc, ◌-◌, nat_eq, ◌==◌, Bool, true, false, ◌&&◌, [], Vec, Box, Global, refl, sym, ap, ◌∙◌, true≢false}
use Rattle.std.proofs.Common.{arith}
use Rattle.std.proofs.lemmas.Bool.Decides.{nat_tests}
use Rattle.strkw_regex_core.specs.machine.MarkedPattern.{MarkedPattern, empty, class, look, cat, alt, lookbehind, lookahead}
use Rattle.strkw_regex_core.specs.Tree.{start, end, boundary, no_boundary}
use Rattle.strkw_regex_core.specs.machine.Times.{Times, any_times, some_times, once_at_most, exact_times, least_times, range_times, repetition}
use Rattle.strkw_regex_core.specs.machine.Times.{quantified_pattern}
use Rattle.strkw_regex_core.specs.machine.OneCharLookahead.{is_glance, are_told}
use Rattle.strkw_regex_core.specs.machine.Program.{is_class, is_empty, glance, program, alternatives}
use Rattle.strkw_charset.specs.declared.tree.CharSet.{CharSet}
use Rattle.strkw_regex_core.specs.machine.Shape.{outline_pattern, outline_node, quantifier_of, is_never}
use Rattle.strkw_regex_core.specs.declared.counted_regex.Quantifier.{Quantifier}
use Rattle.strkw_regex_core.specs.declared.counted_regex.Quantifier.TheVariants.{ZeroOrMore, OneOrMore, ZeroOrOne, Exactly, AtLeast, FromTo}
use Rattle.strkw_regex_core.specs.declared.counted_regex.CountedRegex.{CountedRegex, CountedRegex-F, roll-CountedRegex, map-CountedRegex, fold-roll-CountedRegex}
use Rattle.strkw_regex_core.specs.declared.counted_regex.CountedRegex.TheVariants.{Empty, Class, Start, End, Boundary, NoBoundary, Then, Or, Repeated, Behind}
use Rattle.strkw_regex_core.specs.declared.counted_regex.CountedRegex.TheVariants.{Ahead, rolls-Empty, rolls-Class, rolls-Start, rolls-End, rolls-Boundary}
use Rattle.strkw_regex_core.specs.declared.counted_regex.CountedRegex.TheVariants.{rolls-NoBoundary, rolls-Then, rolls-Or, rolls-Repeated, rolls-Behind}
use Rattle.strkw_regex_core.specs.declared.counted_regex.CountedRegex.TheVariants.{rolls-Ahead}
use Rattle.strkw_charset.proofs.Booleans.{and_true, and_left}

-- an outline stands for what its node does, with the patterns of its children
by_node : (node : CountedRegex-F CountedRegex) (o : CountedRegex) → roll-CountedRegex node ≡ o
    → outline_pattern o ≡ outline_node (map-CountedRegex CountedRegex MarkedPattern outline_pattern node)
by_node node o rolls = ap outline_pattern (sym rolls) ∙ fold-roll-CountedRegex MarkedPattern outline_node node

-- the empty outline stands for the empty pattern
pub outlined-Empty : outline_pattern Empty ≡ empty
outlined-Empty = by_node CountedRegex-F.Empty _ rolls-Empty

-- that of `^` stands for its assertion
pub outlined-Start : outline_pattern Start ≡ look start
outlined-Start = by_node CountedRegex-F.Start _ rolls-Start

-- and that of `$`
pub outlined-End : outline_pattern End ≡ look end
outlined-End = by_node CountedRegex-F.End _ rolls-End

-- and that of `\b`
pub outlined-Boundary : outline_pattern Boundary ≡ look boundary
outlined-Boundary = by_node CountedRegex-F.Boundary _ rolls-Boundary

-- and that of `\B`
pub outlined-NoBoundary : outline_pattern NoBoundary ≡ look no_boundary
outlined-NoBoundary = by_node CountedRegex-F.NoBoundary _ rolls-NoBoundary

-- that of a class stands for the class without a mark
pub outlined-Class : (negated : Bool) (sets : Vec CharSet Global)
    → outline_pattern (Class negated sets) ≡ class false negated sets.items
outlined-Class negated sets = by_node (CountedRegex-F.Class negated sets) _ (rolls-Class negated sets)

-- two outlines one behind the other stand for their patterns one behind the other
pub outlined-Then : (first second : Box CountedRegex Global)
    → outline_pattern (Then first second) ≡ cat (outline_pattern first.value) (outline_pattern second.value)
outlined-Then first second = by_node (CountedRegex-F.Then first second) _ (rolls-Then first second)

-- two that are alternatives stand for their patterns as alternatives
pub outlined-Or : (one other : Box CountedRegex Global)
    → outline_pattern (Or one other) ≡ alt (outline_pattern one.value) (outline_pattern other.value)
outlined-Or one other = by_node (CountedRegex-F.Or one other) _ (rolls-Or one other)

-- a repeated outline stands for its pattern with that quantifier
pub outlined-Repeated : (q : Quantifier) (body : Box CountedRegex Global)
    → outline_pattern (Repeated q body) ≡ quantified_pattern (quantifier_of q) (outline_pattern body.value)
outlined-Repeated q body = by_node (CountedRegex-F.Repeated q body) _ (rolls-Repeated q body)

-- what stands before a place stands for a lookbehind of its pattern
pub outlined-Behind : (negated : Bool) (body : Box CountedRegex Global)
    → outline_pattern (Behind negated body) ≡ lookbehind negated (outline_pattern body.value)
outlined-Behind negated body = by_node (CountedRegex-F.Behind negated body) _ (rolls-Behind negated body)

-- and that of a lookahead for one of its pattern
pub outlined-Ahead : (negated : Bool) (body : Box CountedRegex Global)
    → outline_pattern (Ahead negated body) ≡ lookahead negated (outline_pattern body.value)
outlined-Ahead negated body = by_node (CountedRegex-F.Ahead negated body) _ (rolls-Ahead negated body)

-- the equations of outlines without children
pub ruleset plain_shapes =
    (outlined-Empty, outlined-Class, outlined-Start, outlined-End, outlined-Boundary, outlined-NoBoundary)

-- the equations of all outlines
pub ruleset shapes = (plain_shapes, outlined-Then, outlined-Or, outlined-Repeated, outlined-Behind, outlined-Ahead)

-- what is repeated is no class
pub no_class : (t : Times) (p : MarkedPattern) → is_class (quantified_pattern t p) ≡ false
no_class (exact_times zero) p = refl
no_class (exact_times (suc n)) p = refl
no_class _ p = refl

-- and is nothing where it is so with no copies
pub is_no_copy : (n : ℕ) (p : MarkedPattern) → nat_eq n 0 ≡ is_empty (repetition n p)
is_no_copy zero p = refl
is_no_copy (suc n) p = grind (arith, nat_tests)

-- what may be missing stands among alternatives otherwise than by itself
-- what is repeated in any other way stands there as by itself
pub same_beside : (q : Quantifier) (p : MarkedPattern) → (q ≡ ZeroOrOne → ⊥)
    → alternatives (quantified_pattern (quantifier_of q) p) ≡ program (quantified_pattern (quantifier_of q) p)
same_beside ZeroOrOne p h = absurd (h refl)
same_beside (Exactly zero) p h = refl
same_beside (Exactly (suc n)) p h = refl
same_beside _ p h = refl

-- a glance of what is repeated a number of times asks nothing
pub no_glance : (n : ℕ) (p : MarkedPattern) → glance (repetition n p) ≡ []
no_glance zero p = refl
no_glance (suc n) p = no_glance n p

-- nor does one of what is repeated in any way but being missing
pub repeated_glance : (q : Quantifier) (p : MarkedPattern) → (q ≡ ZeroOrOne → ⊥) → glance (quantified_pattern (quantifier_of q) p) ≡ []
repeated_glance ZeroOrMore p h = refl
repeated_glance OneOrMore p h = refl
repeated_glance ZeroOrOne p h = absurd (h refl)
repeated_glance (Exactly n) p h = no_glance n p
repeated_glance (AtLeast n) p h = refl
repeated_glance (FromTo n m) p h = no_glance (m - n) (alt empty p)

-- what is repeated, where there is no copy of it
-- as many copies as none are no number with one more
pub no_copy : (n : ℕ) → (suc n == 0) ≡ true → ⊥
no_copy n h = let some : (suc n == 0) ≡ false = grind (arith, nat_tests) in true≢false (sym h ∙ some)

-- its lookaheads are told
pub never_told : (t : Times) (p : MarkedPattern) → is_never t ≡ true → are_told (quantified_pattern t p) ≡ true
never_told any_times p h = absurd (true≢false (sym h))
never_told some_times p h = absurd (true≢false (sym h))
never_told once_at_most p h = absurd (true≢false (sym h))
never_told (exact_times zero) p h = refl
never_told (exact_times (suc n)) p h = absurd (no_copy n h)
never_told (least_times n) p h = absurd (true≢false (sym h))
never_told (range_times zero zero) p h = refl
never_told (range_times zero (suc m)) p h = absurd (no_copy m h)
never_told (range_times (suc n) m) p h = absurd (no_copy n (and_left (suc n == 0) _ h))

-- and it is a glance
pub never_glance : (t : Times) (p : MarkedPattern) → is_never t ≡ true → is_glance (quantified_pattern t p) ≡ true
never_glance any_times p h = absurd (true≢false (sym h))
never_glance some_times p h = absurd (true≢false (sym h))
never_glance once_at_most p h = absurd (true≢false (sym h))
never_glance (exact_times zero) p h = refl
never_glance (exact_times (suc n)) p h = absurd (no_copy n h)
never_glance (least_times n) p h = absurd (true≢false (sym h))
never_glance (range_times zero zero) p h = refl
never_glance (range_times zero (suc m)) p h = absurd (no_copy m h)
never_glance (range_times (suc n) m) p h = absurd (no_copy n (and_left (suc n == 0) _ h))

-- where there is a copy
-- copies of what has its lookaheads told have theirs told
told_copies : (n : ℕ) (p : MarkedPattern) → are_told p ≡ true → are_told (repetition n p) ≡ true
told_copies zero p h = refl
told_copies (suc n) p h = and_true _ _ h (told_copies n p h)

-- and so has it, repeated in any way
told_times : (t : Times) (p : MarkedPattern) → are_told p ≡ true → are_told (quantified_pattern t p) ≡ true
told_times any_times p h = h
told_times some_times p h = h
told_times once_at_most p h = h
told_times (exact_times n) p h = told_copies n p h
told_times (least_times n) p h = and_true _ _ (told_copies n p h) h
told_times (range_times n m) p h = and_true _ _ (told_copies n p h) (told_copies (m - n) (alt empty p) h)

-- and where it has some that is not told, it has, repeated
untold_times : (t : Times) (p : MarkedPattern) → is_never t ≡ false → are_told p ≡ false → are_told (quantified_pattern t p) ≡ false
untold_times any_times p w h = h
untold_times some_times p w h = h
untold_times once_at_most p w h = h
untold_times (exact_times zero) p w h = absurd (true≢false w)
untold_times (exact_times (suc n)) p w h = ap (λ (b : Bool). b && are_told (repetition n p)) h
untold_times (least_times zero) p w h = h
untold_times (least_times (suc n)) p w h = ap (λ (b : Bool). (b && are_told (repetition n p)) && are_told p) h
untold_times (range_times zero zero) p w h = absurd (true≢false w)
untold_times (range_times zero (suc m)) p w h =
    let all : suc m - zero ≡ suc m = omega arith in
    ap (λ (k : ℕ). are_told (repetition k (alt empty p))) all ∙ ap (λ (b : Bool). b && are_told (repetition m (alt empty p))) h
untold_times (range_times (suc n) m) p w h =
    ap (λ (b : Bool). (b && are_told (repetition n p)) && are_told (repetition (m - suc n) (alt empty p))) h

-- so both or none of them have theirs told
pub same_told : (t : Times) (p : MarkedPattern) → is_never t ≡ false → are_told p ≡ are_told (quantified_pattern t p)
same_told t p w = by_test (are_told p) refl
  where
    -- the same by whether it has
    by_test : (b : Bool) → are_told p ≡ b → are_told p ≡ are_told (quantified_pattern t p)
    by_test true h = h ∙ sym (told_times t p h)
    by_test false h = h ∙ sym (untold_times t p w h)

-- copies of nothing are a glance
glance_nothing : (n : ℕ) (p : MarkedPattern) → is_empty p ≡ true → is_glance (repetition n p) ≡ true
glance_nothing zero p h = refl
glance_nothing (suc n) p h = and_true _ _ h (glance_nothing n p h)

-- and copies of anything else are none
pub glance_copies : (n : ℕ) (p : MarkedPattern) → (n == 0) ≡ false → is_empty p ≡ is_glance (repetition n p)
glance_copies zero p w = absurd (true≢false w)
glance_copies (suc n) p w = by_test (is_empty p) refl
  where
    -- the same by whether it is nothing
    by_test : (b : Bool) → is_empty p ≡ b → is_empty p ≡ is_glance (repetition (suc n) p)
    by_test true h = h ∙ sym (and_true _ _ h (glance_nothing n p h))
    by_test false h = h ∙ sym (ap (λ (b : Bool). b && is_glance (repetition n p)) h)

-- what is repeated in another way is one only where there is no copy
pub other_glance : (q : Quantifier) (p : MarkedPattern) → (q ≡ ZeroOrOne → ⊥) → ((n : ℕ) → q ≡ Exactly n → ⊥)
    → is_never (quantifier_of q) ≡ is_glance (quantified_pattern (quantifier_of q) p)
other_glance ZeroOrMore p h g = refl
other_glance OneOrMore p h g = refl
other_glance ZeroOrOne p h g = absurd (h refl)
other_glance (Exactly n) p h g = absurd (g n refl)
other_glance (AtLeast zero) p h g = refl
other_glance (AtLeast (suc n)) p h g = refl
other_glance (FromTo zero zero) p h g = refl
other_glance (FromTo zero (suc m)) p h g =
    let all : suc m - zero ≡ suc m = omega arith in
    let some : (suc m == 0) ≡ false = grind (arith, nat_tests) in
    some ∙ sym (ap (λ (k : ℕ). is_glance (repetition k (alt empty p))) all)
other_glance (FromTo (suc n) m) p h g =
    let some : (suc n == 0) ≡ false = grind (arith, nat_tests) in
    ap (λ (b : Bool). b && (m == 0)) some
