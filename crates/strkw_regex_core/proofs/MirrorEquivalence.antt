-- What is alike, and that a counted term may keep the order of its copies in a mirror.
use Rattle.std.proofs.Common.{◌≡◌, ℕ, zero, suc, ◌-◌, Bool, true, false, ◌&&◌, ◌||◌, List, if◌then◌else◌, refl, sym, ap, subst, ◌∙◌, inl, inr, subst₂}
use Rattle.std.proofs.Common.{Result, Ok, Err, IfOk, Box, Global, true≢false, arith}
use Rattle.strkw_regex_core.specs.machine.MarkedPattern.{MarkedPattern, empty, class, look, cat, alt, star, plus, lookbehind, lookahead}
use Rattle.strkw_regex_core.specs.machine.MarkedMeaning.{Rounds, no_round, a_round, Matches}
use Rattle.strkw_regex_core.specs.machine.Times.{Times, any_times, some_times, once_at_most, exact_times, least_times, range_times, repetition}
use Rattle.strkw_regex_core.specs.machine.Times.{quantified_pattern}
use Rattle.strkw_regex_core.specs.machine.Program.{is_class, is_empty, alternatives}
use Rattle.strkw_regex_core.specs.machine.OneCharLookahead.{is_glance, are_told}
use Rattle.strkw_regex_core.specs.machine.ProgramSteps.{steps_of, steps, spread}
use Rattle.strkw_regex_core.specs.machine.Mirror.{mirror}
use Rattle.strkw_regex_core.specs.machine.Positions.{is_unmarked}
use Rattle.strkw_regex_core.specs.machine.EquivalentPatterns.{EquivalentPatterns}
use Rattle.std.specs.declared.alloc.AllocError.{AllocError}
use Rattle.strkw_regex_core.specs.machine.Shape.{outline_pattern, quantifier_of}
use Rattle.strkw_regex_core.specs.declared.counted_regex.Quantifier.{Quantifier}
use Rattle.strkw_regex_core.specs.declared.counted_regex.CountedRegex.{CountedRegex}
use Rattle.strkw_regex_core.specs.declared.counted_regex.CountedRegex.TheVariants.{Then, Or, Repeated, Behind, Ahead}
use Rattle.strkw_regex_core.proofs.Shapes.{outlined-Then, outlined-Or, outlined-Repeated, outlined-Behind, outlined-Ahead}
use Rattle.strkw_regex_core.proofs.Mirrors.{first_of}
use Rattle.strkw_regex_core.proofs.Sizes.{cat_steps, beside_steps}
use Rattle.strkw_charset.proofs.Booleans.{and_left}
use Rattle.strkw_regex_core.proofs.PatternEquivalences.{alike_refl, alike_trans, alike_cat, alt_same, spread_nothing, spread_class, alike_alt, star_same}
use Rattle.strkw_regex_core.proofs.PatternEquivalences.{plus_same, spread_look, alike_behind, alike_ahead, alike_times}

-- two patterns one behind the other match what they do in the other order
module _ (text : List ℕ) where
  -- wherever the one and then the other match, the other and then the one do
  abbrev Swaps : MarkedPattern → MarkedPattern → Type 0
  Swaps q r = (i j : ℕ) → ((m : ℕ) × Matches text q i m × Matches text r m j) → (m : ℕ) × Matches text r i m × Matches text q m j

  -- a pattern and copies of another
  swaps_copies : (q r : MarkedPattern) → Swaps q r → (n : ℕ) → Swaps q (repetition n r)
  swaps_copies q r f zero i j (m, a, e) = (i, refl, subst (λ (z : ℕ). Matches text q i z) e a)
  swaps_copies q r f (suc n) i j (m, a, (x, b, c)) =
      let one = f i x (m, a, b) in
      let more = swaps_copies q r f n one.0 j (x, one.2, c) in
      (more.0, (one.0, one.1, more.1), more.2)

  -- copies of a pattern and another
  copies_swap : (r q : MarkedPattern) → Swaps r q → (n : ℕ) → Swaps (repetition n r) q
  copies_swap r q f zero i j (m, e, a) = (j, subst (λ (z : ℕ). Matches text q z j) (sym e) a, refl)
  copies_swap r q f (suc n) i j (m, (x, b, c), a) =
      let more = copies_swap r q f n x j (m, c, a) in
      let one = f i more.0 (x, b, more.1) in
      (one.0, one.1, (more.0, one.2, more.2))

  -- one round and more of them
  last_of : (R : ℕ → ℕ → Type 0) (j i m : ℕ) → R i m → Rounds R j m → (x : ℕ) × Rounds R x i × R x j
  last_of R j i m r (no_round _ e) = (i, no_round i refl, subst (R i) e r)
  last_of R j i m r (a_round _ l s rs) =
      let last = last_of R j m l s rs in
      (last.0, a_round i m r last.1, last.2)

  -- a pattern and any number of it
  swaps_star : (q : MarkedPattern) → Swaps q (star q)
  swaps_star q i j (m, a, rs) = last_of (Matches text q) j i m a rs

  -- any number of a pattern and the pattern
  star_swaps : (q : MarkedPattern) → Swaps (star q) q
  star_swaps q i j (m, rs, a) = first_of (Matches text q) m j i rs a

  -- one and what may be missing
  swaps_option : (q : MarkedPattern) → Swaps q (alt empty q)
  swaps_option q i j (m, a, inl e) = (i, inl refl, subst (λ (z : ℕ). Matches text q i z) e a)
  swaps_option q i j (m, a, inr b) = (m, inr a, b)

  -- what may be missing and one
  option_swaps : (q : MarkedPattern) → Swaps (alt empty q) q
  option_swaps q i j (m, inl e, a) = (j, subst (λ (z : ℕ). Matches text q z j) (sym e) a, inl refl)
  option_swaps q i j (m, inr b, a) = (m, b, inr a)

-- a mirror is nothing where the pattern is
pub mirror_nothing : (p : MarkedPattern) → is_empty (mirror p) ≡ is_empty p
mirror_nothing empty = refl
mirror_nothing (class m n rs) = refl
mirror_nothing (look l) = refl
mirror_nothing (cat p q) = by_test (is_empty p || is_empty q)
  where
    by_test : (b : Bool) → is_empty (if b then cat (mirror p) (mirror q) else cat (mirror q) (mirror p)) ≡ false
    by_test true = refl
    by_test false = refl
mirror_nothing (alt p q) = refl
mirror_nothing (star p) = refl
mirror_nothing (plus p) = refl
mirror_nothing (lookbehind n p) = refl
mirror_nothing (lookahead n p) = refl

-- it is a class where the pattern is
pub mirror_class : (p : MarkedPattern) → is_class (mirror p) ≡ is_class p
mirror_class empty = refl
mirror_class (class m n rs) = refl
mirror_class (look l) = refl
mirror_class (cat p q) = by_test (is_empty p || is_empty q)
  where
    by_test : (b : Bool) → is_class (if b then cat (mirror p) (mirror q) else cat (mirror q) (mirror p)) ≡ false
    by_test true = refl
    by_test false = refl
mirror_class (alt p q) = refl
mirror_class (star p) = refl
mirror_class (plus p) = refl
mirror_class (lookbehind n p) = refl
mirror_class (lookahead n p) = refl

-- and with a mark beside what lookarounds look for it takes as many steps, by itself and among alternatives
abbrev TakesSame : MarkedPattern → MarkedPattern → Type 0
TakesSame p q = (steps (spread p) ≡ steps (spread q)) × (steps_of (alternatives (spread p)) ≡ steps_of (alternatives (spread q)))

-- the mirror of a pattern takes as many so as the pattern does
mirror_spread : (p : MarkedPattern) → TakesSame (mirror p) p
mirror_spread empty = (refl, refl)
mirror_spread (class m n rs) = (refl, refl)
mirror_spread (look l) = (refl, refl)
mirror_spread (cat p q) = by_test (is_empty p || is_empty q) (mirror_spread p).0 (mirror_spread q).0
  where
    -- by whether one of the two is nothing
    by_test : (b : Bool) → steps (spread (mirror p)) ≡ steps (spread p) → steps (spread (mirror q)) ≡ steps (spread q)
        → TakesSame (if b then cat (mirror p) (mirror q) else cat (mirror q) (mirror p)) (cat p q)
    by_test true u w =
        let same : steps (spread (cat (mirror p) (mirror q))) ≡ steps (spread (cat p q)) =
        omega (arith, cat_steps (spread (mirror p)) (spread (mirror q)), cat_steps (spread p) (spread q), u, w) in
        (same, same)
    by_test false u w =
        let same : steps (spread (cat (mirror q) (mirror p))) ≡ steps (spread (cat p q)) =
        omega (arith, cat_steps (spread (mirror q)) (spread (mirror p)), cat_steps (spread p) (spread q), u, w) in
        (same, same)
mirror_spread (alt p q) = (
  alt_same (spread (mirror p)) (spread (mirror q)) (spread p) (spread q) (spread_nothing (mirror p) ∙ mirror_nothing p ∙ sym (spread_nothing p))
      (spread_class (mirror q) ∙ mirror_class q ∙ sym (spread_class q)) (mirror_spread p).1 (mirror_spread q).0,
  omega (arith, beside_steps (spread (mirror p)) (spread (mirror q)), beside_steps (spread p) (spread q), (mirror_spread p).1, (mirror_spread q).0),
)
mirror_spread (star p) =
    let same = star_same (spread (mirror p)) (spread p) (spread_class (mirror p) ∙ mirror_class p ∙ sym (spread_class p)) (mirror_spread p).0 in
    (same, same)
mirror_spread (plus p) =
    let same = plus_same (spread (mirror p)) (spread p) (spread_class (mirror p) ∙ mirror_class p ∙ sym (spread_class p)) (mirror_spread p).0 in
    (same, same)
mirror_spread (lookbehind n p) =
    let same : steps (spread (lookahead n (mirror p))) ≡ steps (spread (lookbehind n p)) =
    omega (arith, spread_look n (spread (mirror p)), spread_look n (spread p), (mirror_spread p).0) in
    (same, same)
mirror_spread (lookahead n p) =
    let same : steps (spread (lookbehind n (mirror p))) ≡ steps (spread (lookahead n p)) =
    omega (arith, spread_look n (spread (mirror p)), spread_look n (spread p), (mirror_spread p).0) in
    (same, same)

-- so it has as many by itself
pub mirror_steps : (p : MarkedPattern) → steps (spread (mirror p)) ≡ steps (spread p)
mirror_steps p = (mirror_spread p).0

-- both of two are so in either order
and_turned : (a b : Bool) → (a && b) ≡ (b && a)
and_turned true true = refl
and_turned true false = refl
and_turned false true = refl
and_turned false false = refl

-- two patterns that match the same in either order, and are not nothing, are alike in either
swapped : (q r : MarkedPattern) → is_empty q ≡ false → is_empty r ≡ false → ((text : List ℕ) → Swaps text q r × Swaps text r q)
    → EquivalentPatterns (cat q r) (cat r q)
swapped q r some other swap =
    let same : steps (cat q r) ≡ steps (cat r q) = omega (arith, cat_steps q r, cat_steps r q) in
    let wide : steps (spread (cat q r)) ≡ steps (spread (cat r q)) =
    omega (arith, cat_steps (spread q) (spread r), cat_steps (spread r) (spread q)) in
    record {
      meaning = λ text i j. ((swap text).0 i j, (swap text).1 i j);
      nothing = refl;
      class = refl;
      sees = ap (λ (b : Bool). b && is_glance r) some ∙ sym (ap (λ (b : Bool). b && is_glance q) other);
      told = and_turned (are_told q) (are_told r);
      clean = and_turned (is_unmarked q) (is_unmarked r);
      steps = λ t. same;
      beside = λ t. same;
      glance_steps = λ g. absurd (true≢false (sym (and_left (is_empty r) _ g) ∙ other));
      apart = wide;
      apart_beside = wide;
    }

-- such patterns, each like the mirror of another, are one behind the other like the mirror of both
in_order : (p q r s : MarkedPattern) (b c : Bool) → is_empty p ≡ b → is_empty q ≡ c → EquivalentPatterns r (mirror p) → EquivalentPatterns s (mirror q)
    → ((text : List ℕ) → Swaps text r s × Swaps text s r)
    → EquivalentPatterns (cat r s) (if b || c then cat (mirror p) (mirror q) else cat (mirror q) (mirror p))
in_order p q r s true c e g u w swap = alike_cat _ _ _ _ u w
in_order p q r s false true e g u w swap = alike_cat _ _ _ _ u w
in_order p q r s false false e g u w swap =
    alike_trans _ _ _ (swapped r s (u.nothing ∙ mirror_nothing p ∙ e) (w.nothing ∙ mirror_nothing q ∙ g) swap) (alike_cat _ _ _ _ w u)

-- copies of a mirror are like the mirror of copies
repeated_mirror : (n : ℕ) (p : MarkedPattern) → EquivalentPatterns (repetition n (mirror p)) (mirror (repetition n p))
repeated_mirror zero p = alike_refl empty
repeated_mirror (suc n) p =
    in_order p (repetition n p) (mirror p) (repetition n (mirror p)) _ _ refl refl (alike_refl (mirror p)) (repeated_mirror n p)
    (λ text. (
      swaps_copies text (mirror p) (mirror p) (λ i j m. m) n,
      copies_swap text (mirror p) (mirror p) (λ i j m. m) n,
    ))

-- and so it is with all that is repeated
pub times_mirror : (t : Times) (p : MarkedPattern) → EquivalentPatterns (quantified_pattern t (mirror p)) (mirror (quantified_pattern t p))
times_mirror any_times p = alike_refl _
times_mirror some_times p = alike_refl _
times_mirror once_at_most p = alike_refl _
times_mirror (exact_times n) p = repeated_mirror n p
times_mirror (least_times n) p =
    in_order (repetition n p) (star p) (repetition n (mirror p)) (star (mirror p)) _ _ refl refl (repeated_mirror n p) (alike_refl _)
    (λ text. (
      copies_swap text (mirror p) (star (mirror p)) (swaps_star text (mirror p)) n,
      swaps_copies text (star (mirror p)) (mirror p) (star_swaps text (mirror p)) n,
    ))
times_mirror (range_times n m) p =
    let q = mirror p in
    in_order (repetition n p) (repetition (m - n) (alt empty p)) (repetition n q) (repetition (m - n) (alt empty q)) _ _ refl refl
    (repeated_mirror n p) (repeated_mirror (m - n) (alt empty p))
    (λ text. (
      copies_swap text q (repetition (m - n) (alt empty q)) (swaps_copies text q (alt empty q) (swaps_option text q) (m - n)) n,
      swaps_copies text (repetition (m - n) (alt empty q)) q (copies_swap text (alt empty q) q (option_swaps text q) (m - n)) n,
    ))

-- what is like the mirror of a pattern is, repeated, like the mirror of that repeated
pub counted_mirror : (t : Times) (p r : MarkedPattern) → EquivalentPatterns r (mirror p) → EquivalentPatterns (quantified_pattern t r) (mirror (quantified_pattern t p))
counted_mirror t p r u = alike_trans _ _ _ (alike_times t r (mirror p) u) (times_mirror t p)

-- what are like the mirrors of two patterns are, in the order of their mirror, like that
pub cat_mirror : (p q r s : MarkedPattern) (b : Bool) → (is_empty p || is_empty q) ≡ b → EquivalentPatterns r (mirror p) → EquivalentPatterns s (mirror q)
    → EquivalentPatterns (if b then cat r s else cat s r) (mirror (cat p q))
cat_mirror p q r s b e u w =
    subst (λ (c : Bool). EquivalentPatterns (if b then cat r s else cat s r)
    (if c then cat (mirror p) (mirror q) else cat (mirror q) (mirror p))) (sym e) (by_test b)
  where
    by_test : (b : Bool) → EquivalentPatterns (if b then cat r s else cat s r) (if b then cat (mirror p) (mirror q) else cat (mirror q) (mirror p))
    by_test true = alike_cat _ _ _ _ u w
    by_test false = alike_cat _ _ _ _ w u

-- what holds of a result holds of it by less
pub ok_weaker : {A E : Type 0} (r : Result A E) (P Q : A → Type 0) → ((x : A) → P x → Q x) → IfOk r P → IfOk r Q
ok_weaker (Ok x) P Q f p = f x p
ok_weaker (Err e) P Q f p = tt

-- outlines, of which one is made in the place of another
module _ (s : CountedRegex) (r : Result CountedRegex AllocError) where
  -- of two, one behind the other
  pub then_made : (first second : Box CountedRegex Global) (f g a b : CountedRegex) (x y : Bool) → s ≡ Then first second → f ≡ first.value → g ≡ second.value
      → x ≡ is_empty (outline_pattern first.value) → y ≡ is_empty (outline_pattern second.value)
      → EquivalentPatterns (outline_pattern a) (mirror (outline_pattern f)) → EquivalentPatterns (outline_pattern b) (mirror (outline_pattern g))
      → IfOk r (λ t. outline_pattern t ≡ (if x || y then cat (outline_pattern a) (outline_pattern b) else cat (outline_pattern b) (outline_pattern a)))
      → IfOk r (λ t. EquivalentPatterns (outline_pattern t) (mirror (outline_pattern s)))
  then_made first second f g a b x y is f_is g_is x_is y_is u w =
      ok_weaker r _ _ (λ t e. subst₂ EquivalentPatterns (sym e)
      (sym (ap mirror (ap outline_pattern is ∙ outlined-Then first second)))
      (cat_mirror (outline_pattern first.value) (outline_pattern second.value) (outline_pattern a) (outline_pattern b) (x || y)
      (ap (λ (b : Bool). b || is_empty (outline_pattern second.value)) (sym x_is) ∙ ap (λ (b : Bool). x || b) (sym y_is))
      (subst (λ (o : CountedRegex). EquivalentPatterns (outline_pattern a) (mirror (outline_pattern o))) f_is u)
      (subst (λ (o : CountedRegex). EquivalentPatterns (outline_pattern b) (mirror (outline_pattern o))) g_is w)))

  -- of alternatives
  pub or_made : (one other : Box CountedRegex Global) (f g a b : CountedRegex) → s ≡ Or one other → f ≡ one.value → g ≡ other.value
      → EquivalentPatterns (outline_pattern a) (mirror (outline_pattern f)) → EquivalentPatterns (outline_pattern b) (mirror (outline_pattern g))
      → IfOk r (λ t. outline_pattern t ≡ alt (outline_pattern a) (outline_pattern b)) → IfOk r (λ t. EquivalentPatterns (outline_pattern t) (mirror (outline_pattern s)))
  or_made one other f g a b is f_is g_is u w =
      ok_weaker r _ _ (λ t e. subst₂ EquivalentPatterns (sym e)
      (sym (ap mirror (ap outline_pattern is ∙ outlined-Or one other)))
      (alike_alt _ _ _ _ (subst (λ (o : CountedRegex). EquivalentPatterns (outline_pattern a) (mirror (outline_pattern o))) f_is u)
      (subst (λ (o : CountedRegex). EquivalentPatterns (outline_pattern b) (mirror (outline_pattern o))) g_is w)))

  -- of one with a body
  module _ (body : Box CountedRegex Global) (f a : CountedRegex) (f_is : f ≡ body.value) (u : EquivalentPatterns (outline_pattern a) (mirror (outline_pattern f))) where
    of_body : EquivalentPatterns (outline_pattern a) (mirror (outline_pattern body.value))
    of_body = subst (λ (o : CountedRegex). EquivalentPatterns (outline_pattern a) (mirror (outline_pattern o))) f_is u

    pub repeated_made : (q : Quantifier) → s ≡ Repeated q body
        → IfOk r (λ t. outline_pattern t ≡ quantified_pattern (quantifier_of q) (outline_pattern a))
        → IfOk r (λ t. EquivalentPatterns (outline_pattern t) (mirror (outline_pattern s)))
    repeated_made q is =
        ok_weaker r _ _ (λ t e. subst₂ EquivalentPatterns (sym e) (sym (ap mirror (ap outline_pattern is ∙ outlined-Repeated q body)))
        (counted_mirror (quantifier_of q) (outline_pattern body.value) (outline_pattern a) of_body))

    pub behind_made : (n : Bool) → s ≡ Behind n body → IfOk r (λ t. outline_pattern t ≡ lookahead n (outline_pattern a))
        → IfOk r (λ t. EquivalentPatterns (outline_pattern t) (mirror (outline_pattern s)))
    behind_made n is =
        ok_weaker r _ _ (λ t e. subst₂ EquivalentPatterns (sym e) (sym (ap mirror (ap outline_pattern is ∙ outlined-Behind n body))) (alike_ahead n _ _ of_body))

    pub ahead_made : (n : Bool) → s ≡ Ahead n body → IfOk r (λ t. outline_pattern t ≡ lookbehind n (outline_pattern a))
        → IfOk r (λ t. EquivalentPatterns (outline_pattern t) (mirror (outline_pattern s)))
    ahead_made n is =
        ok_weaker r _ _ (λ t e. subst₂ EquivalentPatterns (sym e) (sym (ap mirror (ap outline_pattern is ∙ outlined-Ahead n body))) (alike_behind n _ _ of_body))
