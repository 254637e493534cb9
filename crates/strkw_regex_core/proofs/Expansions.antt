-- Rounds and the copies that are written out for them lead to the same places.
use Rattle.std.proofs.Common.{◌≡◌, ◌↔◌, ℕ, zero, suc, ◌+◌, ◌-◌, ◌≤◌, ◌==◌, ◌&&◌, Bool, true, false, List, Option, Some, None, IfSome, if◌then◌else◌}
use Rattle.std.proofs.Common.{refl, sym, ap, subst, inl, inr, ⊎_elim, arith}
use Rattle.std.proofs.lemmas.Bool.{eqb-true}
use Rattle.strkw_regex_core.specs.Matchers.{AreOrdered}
use Rattle.strkw_regex_core.specs.Meaning.{Rounds, Unless, Matches, Found}
use Rattle.strkw_regex_core.specs.Tree.{Pattern}
use Rattle.strkw_regex_core.specs.Tree as tree
use Rattle.strkw_regex_core.specs.machine.Expansion.{expand}
use Rattle.strkw_regex_core.specs.machine.MarkedMeaning as marked
use Rattle.strkw_regex_core.specs.machine.MarkedPattern.{MarkedPattern, empty, alt}
use Rattle.strkw_regex_core.specs.machine.Times.{Times, any_times, some_times, once_at_most, exact_times, least_times, range_times, repetition}
use Rattle.strkw_regex_core.specs.machine.Times.{times_of, quantified_pattern}
use Rattle.strkw_regex_core.proofs.Matchers.{Counted}
use Rattle.strkw_regex_core.proofs.Mirrors.{unless_same}

-- how often a quantifier repeats at least
abbrev pub least_of : Times → ℕ
least_of any_times = 0
least_of some_times = 1
least_of once_at_most = 0
least_of (exact_times n) = n
least_of (least_times n) = n
least_of (range_times n m) = n

-- and at most
abbrev pub most_of : Times → Option ℕ
most_of any_times = None
most_of some_times = None
most_of once_at_most = Some 1
most_of (exact_times n) = Some n
most_of (least_times n) = None
most_of (range_times n m) = Some m

module _ (text : List ℕ) (p : MarkedPattern) (R : ℕ → ℕ → Type 0) (same : (i j : ℕ) → R i j ↔ marked.Matches text p i j) where
  -- so many rounds are some rounds
  to_rounds : (n i j : ℕ) → Rounds R n i j → marked.Rounds (marked.Matches text p) j i
  to_rounds zero i j e = marked.no_round i e
  to_rounds (suc n) i j (l, r, rs) = marked.a_round i l ((same i l).0 r) (to_rounds n l j rs)

  -- and some are so many
  of_rounds : (j i : ℕ) → marked.Rounds (marked.Matches text p) j i → (n : ℕ) × Rounds R n i j
  of_rounds j i (marked.no_round _ e) = (0, e)
  of_rounds j i (marked.a_round _ l m ms) =
      let rest = of_rounds j l ms in
      (suc rest.0, (l, (same i l).1 m, rest.1))

  -- so many rounds are so many copies
  to_copies : (n i j : ℕ) → Rounds R n i j → marked.Matches text (repetition n p) i j
  to_copies zero i j e = e
  to_copies (suc n) i j (l, r, rs) = (l, (same i l).0 r, to_copies n l j rs)

  -- and back
  of_copies : (n i j : ℕ) → marked.Matches text (repetition n p) i j → Rounds R n i j
  of_copies zero i j e = e
  of_copies (suc n) i j (l, m, ms) = (l, (same i l).1 m, of_copies n l j ms)

  -- at most so many rounds are so many copies that may be missing
  to_options : (k n i j : ℕ) → n ≤ k → Rounds R n i j → marked.Matches text (repetition k (alt empty p)) i j
  to_options zero zero i j h e = e
  to_options zero (suc n) i j h rs = absurd (omega (arith, h))
  to_options (suc k) zero i j h e = (i, inl refl, to_options k zero i j (omega arith) e)
  to_options (suc k) (suc n) i j h (l, r, rs) = (l, inr ((same i l).0 r), to_options k n l j (omega (arith, h)) rs)

  -- and back
  of_options : (k i j : ℕ) → marked.Matches text (repetition k (alt empty p)) i j → (n : ℕ) × (n ≤ k) × Rounds R n i j
  of_options zero i j e = (0, omega arith, e)
  of_options (suc k) i j (l, inl e, ms) =
      let rest = of_options k l j ms in
      (rest.0, omega (arith, rest.1), subst (λ (z : ℕ). Rounds R rest.0 z j) (sym e) rest.2)
  of_options (suc k) i j (l, inr m, ms) =
      let rest = of_options k l j ms in
      (suc rest.0, omega (arith, rest.1), (l, (same i l).1 m, rest.2))

  -- rounds are the first of them, and the rest
  split : (a n i j : ℕ) → a ≤ n → Rounds R n i j → (b l : ℕ) × (a + b ≡ n) × Rounds R a i l × Rounds R b l j
  split zero n i j h rs = (n, i, omega arith, refl, rs)
  split (suc a) zero i j h rs = absurd (omega (arith, h))
  split (suc a) (suc n) i j h (m, r, rs) =
      let rest = split a n m j (omega (arith, h)) rs in
      (rest.0, rest.1, omega (arith, rest.2), (m, r, rest.3), rest.4)

  -- and rounds behind others are rounds
  join : (a b i l j : ℕ) → Rounds R a i l → Rounds R b l j → (n : ℕ) × (a + b ≡ n) × Rounds R n i j
  join zero b i l j e rs = (b, omega arith, subst (λ (z : ℕ). Rounds R b z j) (sym e) rs)
  join (suc a) b i l j (m, r, rs) ss =
      let rest = join a b m l j rs ss in
      (suc rest.0, omega (arith, rest.1), (m, r, rest.2))

  -- what a quantifier stands for leads where so many rounds do
  expanded_times : (t : Times) → IfSome (most_of t) (λ k. least_of t ≤ k) → (i j : ℕ)
      → Counted R (least_of t) (most_of t) i j ↔ marked.Matches text (quantified_pattern t p) i j
  expanded_times any_times o i j = (
    λ c. to_rounds c.0 i j c.3,
    λ ms. let rs = of_rounds j i ms in (rs.0, omega arith, tt, rs.1),
  )
  expanded_times some_times o i j = (some, λ f. let rs = of_rounds j f.0 f.2 in (suc rs.0, omega arith, tt, (f.0, (same i f.0).1 f.1, rs.1)))
    where
      -- one round at least, and more
      some : Counted R 1 None i j → (l : ℕ) × marked.Matches text p i l × marked.Rounds (marked.Matches text p) j l
      some (zero, h, _, rs) = absurd (omega (arith, h))
      some (suc n, h, _, (l, r, rs)) = (l, (same i l).0 r, to_rounds n l j rs)
  expanded_times once_at_most o i j = (once, none_or_one)
    where
      -- none or one
      once : Counted R 0 (Some 1) i j → marked.Matches text (alt empty p) i j
      once (zero, _, h, e) = inl e
      once (suc zero, _, h, (l, r, e)) = inr ((same i j).0 (subst (λ (z : ℕ). R i z) e r))
      once (suc (suc n), _, h, rs) = absurd (omega (arith, h))

      -- and back
      none_or_one : marked.Matches text (alt empty p) i j → Counted R 0 (Some 1) i j
      none_or_one (inl e) = (0, omega arith, omega arith, e)
      none_or_one (inr m) = (1, omega arith, omega arith, (j, (same i j).1 m, refl))
  expanded_times (exact_times n) o i j = (
    λ c. let all : c.0 ≡ n = omega (arith, c.1, c.2) in to_copies n i j (subst (λ (k : ℕ). Rounds R k i j) all c.3),
    λ ms. (n, omega arith, omega arith, of_copies n i j ms),
  )
  expanded_times (least_times n) o i j = (
    λ c. let s = split n c.0 i j c.1 c.3 in (s.1, to_copies n i s.1 s.3, to_rounds s.0 s.1 j s.4),
    λ f.
        let rs = of_rounds j f.0 f.2 in
        let all = join n rs.0 i f.0 j (of_copies n i f.0 f.1) rs.1 in
        (all.0, omega (arith, all.1), tt, all.2),
  )
  expanded_times (range_times n m) o i j = (
    λ c.
        let s = split n c.0 i j c.1 c.3 in
        (s.1, to_copies n i s.1 s.3, to_options (m - n) s.0 s.1 j (omega (arith, s.2, c.2)) s.4),
    λ f.
        let rs = of_options (m - n) f.0 j f.2 in
        let all = join n rs.0 i f.0 j (of_copies n i f.0 f.1) rs.2 in
        (all.0, omega (arith, all.1), omega (arith, all.1, rs.1, o), all.2),
  )

-- these are the bounds that a quantifier was made of
bounds : (n : ℕ) (o : Option ℕ) → (least_of (times_of n o) ≡ n) × (most_of (times_of n o) ≡ o)
bounds n None = by_zero (n == 0) (n == 1) refl refl
  where
    -- by whether there has to be one
    by_zero : (a b : Bool) → (n == 0) ≡ a → (n == 1) ≡ b
        → (least_of (if a then any_times else if b then some_times else least_times n) ≡ n)
        × (most_of (if a then any_times else if b then some_times else least_times n) ≡ None)
    by_zero true b e g = (sym (eqb-true n 0 e), refl)
    by_zero false true e g = (sym (eqb-true n 1 g), refl)
    by_zero false false e g = (refl, refl)
bounds n (Some m) = by_same (n == m) (n == 0) (m == 1) refl refl refl
  where
    -- by whether both are the same, or none and one
    by_same : (a b c : Bool) → (n == m) ≡ a → (n == 0) ≡ b → (m == 1) ≡ c
        → (least_of (if a then exact_times n else if b && c then once_at_most else range_times n m) ≡ n)
        × (most_of (if a then exact_times n else if b && c then once_at_most else range_times n m) ≡ Some m)
    by_same true b c e g h = (refl, ap Some (eqb-true n m e))
    by_same false true true e g h = (sym (eqb-true n 0 g), ap Some (sym (eqb-true m 1 h)))
    by_same false true false e g h = (refl, refl)
    by_same false false c e g h = (refl, refl)

-- relations that lead from the same places to the same
abbrev Same : (ℕ → ℕ → Type 0) → (ℕ → ℕ → Type 0) → Type 0
Same R S = (i j : ℕ) → R i j ↔ S i j

module _ (text : List ℕ) where
  -- rounds between bounds, and the copies for them
  counted : (n : ℕ) (o : Option ℕ) → IfSome o (λ k. n ≤ k) → (p : MarkedPattern) (R : ℕ → ℕ → Type 0) → Same R (marked.Matches text p)
      → Same (Counted R n o) (marked.Matches text (quantified_pattern (times_of n o) p))
  counted n o h p R same i j =
      let t = times_of n o in
      let is = bounds n o in
      let ordered : IfSome (most_of t) (λ k. least_of t ≤ k) =
      subst (λ (a : ℕ). IfSome (most_of t) (λ k. a ≤ k)) (sym is.0) (subst (λ (z : Option ℕ). IfSome z (λ k. n ≤ k)) (sym is.1) h) in
      subst (λ (a : ℕ). Counted R a o i j ↔ marked.Matches text (quantified_pattern t p) i j) is.0
      (subst (λ (z : Option ℕ). Counted R (least_of t) z i j ↔ marked.Matches text (quantified_pattern t p) i j) is.1
      (expanded_times text p R same t ordered i j))

  -- what a lookaround looks for is there, or is not, as in its expansion
  looked : (n : Bool) (A B : ℕ → Type 0) → ((i : ℕ) → A i ↔ B i) → Same (λ i j. Unless n (A i) × (i ≡ j)) (λ i j. Unless n (B i) × (i ≡ j))
  looked n A B e i j = (λ m. (unless_same n _ _ (e i) m.0, m.1), λ m. (unless_same n _ _ ((e i).1, (e i).0) m.0, m.1))

  -- a pattern matches what its expansion matches
  pub expanded : (p : Pattern) → AreOrdered p → Same (Matches text p) (marked.Matches text (expand p))
  expanded tree.empty o i j = (λ m. m, λ m. m)
  expanded (tree.class n rs) o i j = (λ m. m, λ m. m)
  expanded (tree.look l) o i j = (λ m. m, λ m. m)
  expanded (tree.cat p q) o i j = (
    λ m. (m.0, (expanded p o.0 i m.0).0 m.1, (expanded q o.1 m.0 j).0 m.2),
    λ m. (m.0, (expanded p o.0 i m.0).1 m.1, (expanded q o.1 m.0 j).1 m.2),
  )
  expanded (tree.alt p q) o i j = (
    ⊎_elim (λ m. inl ((expanded p o.0 i j).0 m)) (λ m. inr ((expanded q o.1 i j).0 m)),
    ⊎_elim (λ m. inl ((expanded p o.0 i j).1 m)) (λ m. inr ((expanded q o.1 i j).1 m)),
  )
  expanded (tree.repeat min max p) o i j = counted min max o.0 (expand p) (Matches text p) (expanded p o.1) i j
  expanded (tree.lookbehind n p) o i j =
      looked n (λ k. (m : ℕ) × Matches text p m k) (λ k. (m : ℕ) × marked.Matches text (expand p) m k)
      (λ k. (λ m. (m.0, (expanded p o m.0 k).0 m.1), λ m. (m.0, (expanded p o m.0 k).1 m.1))) i j
  expanded (tree.lookahead n p) o i j =
      looked n (λ k. (m : ℕ) × Matches text p k m) (λ k. (m : ℕ) × marked.Matches text (expand p) k m)
      (λ k. (λ m. (m.0, (expanded p o k m.0).0 m.1), λ m. (m.0, (expanded p o k m.0).1 m.1))) i j

-- so it is found where its expansion is
pub found_expanded : (text : List ℕ) (p : Pattern) → AreOrdered p → Found p text ↔ marked.Found (expand p) text
found_expanded text p o = (
  λ f. (f.0, f.1, f.2, (expanded text p o f.0 f.1).0 f.3),
  λ f. (f.0, f.1, f.2, (expanded text p o f.0 f.1).1 f.3),
)
