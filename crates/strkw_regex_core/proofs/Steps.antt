-- The law of the marks: a step leads from the ways through a pattern at a place to those at the next.
use Rattle.std.proofs.Common.{◌≡◌, ◌↔◌, ◌⊎◌, ℕ, ◌+◌, ◌≤◌, Bool, true, false, ◌&&◌, ◌||◌, List, Option, Some, None, slice_get, refl, sym, ap, subst}
use Rattle.std.proofs.Common.{◌∙◌, inl, inr, ⊎_elim, true≢false, arith}
use Rattle.strkw_charset.specs.declared.tree.CharSet.{CharSet}
use Rattle.strkw_regex_core.specs.machine.MarkedPattern.{MarkedPattern, empty, class, look, cat, alt, star, plus, lookbehind, lookahead}
use Rattle.strkw_charset.specs.Membership.{differ, is_member}
use Rattle.strkw_regex_core.specs.machine.MarkedMeaning.{Rounds, no_round, a_round, Matches}
use Rattle.strkw_regex_core.specs.Meaning.{before, Unless}
use Rattle.strkw_regex_core.specs.machine.Positions.{reads, leaves_by, step_by, Rest}
use Rattle.strkw_charset.proofs.Booleans.{and_true, and_left, and_right, or_case, or_left, or_right}

-- marks mean nothing for what a pattern matches
pub same_meaning : (see : MarkedPattern → Bool) (text : List ℕ) (b a : Option ℕ) (p : MarkedPattern) (x : Bool)
    → Matches text (step_by see b a p x) ≡ Matches text p
same_meaning see text b a empty x = refl
same_meaning see text b a (class m n rs) x = refl
same_meaning see text b a (look l) x = refl
same_meaning see text b a (cat p q) x =
    ap (λ (R : ℕ → ℕ → Type 0). λ (i j : ℕ). (l : ℕ) × R i l × Matches text (step_by see b a q (leaves_by see b a p x)) l j)
    (same_meaning see text b a p x)
    ∙ ap (λ (R : ℕ → ℕ → Type 0). λ (i j : ℕ). (l : ℕ) × Matches text p i l × R l j) (same_meaning see text b a q (leaves_by see b a p x))
same_meaning see text b a (alt p q) x =
    ap (λ (R : ℕ → ℕ → Type 0). λ (i j : ℕ). R i j ⊎ Matches text (step_by see b a q x) i j) (same_meaning see text b a p x)
    ∙ ap (λ (R : ℕ → ℕ → Type 0). λ (i j : ℕ). Matches text p i j ⊎ R i j) (same_meaning see text b a q x)
same_meaning see text b a (star p) x =
    ap (λ (R : ℕ → ℕ → Type 0). λ (i j : ℕ). Rounds R j i) (same_meaning see text b a p (x || leaves_by see b a p false))
same_meaning see text b a (plus p) x =
    ap (λ (R : ℕ → ℕ → Type 0). λ (i j : ℕ). (l : ℕ) × R i l × Rounds R j l) (same_meaning see text b a p (x || leaves_by see b a p false))
same_meaning see text b a (lookbehind n p) x =
    ap (λ (R : ℕ → ℕ → Type 0). λ (i j : ℕ). Unless n ((k : ℕ) × R k i) × (i ≡ j)) (same_meaning see text b a p true)
same_meaning see text b a (lookahead n p) x = refl

-- rounds of what never ends before it begins do not either
pub rounds_forwards : (R : ℕ → ℕ → Type 0) → ((i j : ℕ) → R i j → i ≤ j) → (j i : ℕ) → Rounds R j i → i ≤ j
rounds_forwards R f j i (no_round _ e) = omega (arith, e)
rounds_forwards R f j i (a_round _ l m s) = omega (arith, f i l m, rounds_forwards R f j l s)

-- no match ends before it begins
module _ (text : List ℕ) where
  -- no match of a pattern does
  pub forwards : (p : MarkedPattern) (i j : ℕ) → Matches text p i j → i ≤ j
  forwards empty i j m = omega (arith, m)
  forwards (class m n rs) i j w = omega (arith, w.3)
  forwards (look l) i j m = omega (arith, m.1)
  forwards (cat p q) i j (l, m, n) = omega (arith, forwards p i l m, forwards q l j n)
  forwards (alt p q) i j (inl m) = forwards p i j m
  forwards (alt p q) i j (inr m) = forwards q i j m
  forwards (star p) i j s = rounds_forwards (Matches text p) (forwards p) j i s
  forwards (plus p) i j (l, m, s) = omega (arith, forwards p i l m, rounds_forwards (Matches text p) (forwards p) j l s)
  forwards (lookbehind n p) i j m = omega (arith, m.1)
  forwards (lookahead n p) i j m = omega (arith, m.1)

  -- nor does a way that goes on from a mark
  pub rest_forwards : (p : MarkedPattern) (i j : ℕ) → Rest text p i j → i ≤ j
  rest_forwards empty i j r = absurd r
  rest_forwards (class m n rs) i j r = omega (arith, r.1)
  rest_forwards (look l) i j r = absurd r
  rest_forwards (cat p q) i j (inl (l, r, m)) = omega (arith, rest_forwards p i l r, forwards q l j m)
  rest_forwards (cat p q) i j (inr r) = rest_forwards q i j r
  rest_forwards (alt p q) i j (inl r) = rest_forwards p i j r
  rest_forwards (alt p q) i j (inr r) = rest_forwards q i j r
  rest_forwards (star p) i j (l, r, s) = omega (arith, rest_forwards p i l r, rounds_forwards (Matches text p) (forwards p) j l s)
  rest_forwards (plus p) i j (l, r, s) = omega (arith, rest_forwards p i l r, rounds_forwards (Matches text p) (forwards p) j l s)
  rest_forwards (lookbehind n p) i j r = absurd r
  rest_forwards (lookahead n p) i j r = absurd r

-- an answer that is negated or not says whether what it says is so, or is not
pub unless_differs : (n b : Bool) (A : Type 0) → (b ≡ true) ↔ A → (differ n b ≡ true) ↔ Unless n A
unless_differs false b A e = e
unless_differs true true A e = (λ h. absurd (true≢false (sym h)), λ f. absurd (f (e.0 refl)))
unless_differs true false A e = (λ h a. true≢false (sym (e.1 a)), λ f. refl)

-- two answers are the same where each is true if the other is
same_bool : (x y : Bool) → (x ≡ true → y ≡ true) → (y ≡ true → x ≡ true) → x ≡ y
same_bool true y f g = sym (f refl)
same_bool false true f g = g refl
same_bool false false f g = refl

-- what enters more leaves more, and a way that has ended once in a plus may end there again
module _ (see : MarkedPattern → Bool) (b a : Option ℕ) where
  -- a pattern that is left is left too with more entering
  more_leaves : (p : MarkedPattern) (x y : Bool) → (x ≡ true → y ≡ true) → leaves_by see b a p x ≡ true → leaves_by see b a p y ≡ true
  more_leaves empty x y f h = f h
  more_leaves (class m n rs) x y f h = h
  more_leaves (look l) x y f h = and_true _ _ (f (and_left x _ h)) (and_right x _ h)
  more_leaves (cat p q) x y f h = more_leaves q (leaves_by see b a p x) (leaves_by see b a p y) (more_leaves p x y f) h
  more_leaves (alt p q) x y f h =
      ⊎_elim (λ one. or_left _ _ (more_leaves p x y f one)) (λ other. or_right _ _ (more_leaves q x y f other))
      (or_case (leaves_by see b a p x) (leaves_by see b a q x) h)
  more_leaves (star p) x y f h = ⊎_elim (λ one. or_left _ _ (f one)) (λ other. or_right y _ other) (or_case x (leaves_by see b a p false) h)
  more_leaves (plus p) x y f h =
      more_leaves p (x || leaves_by see b a p false) (y || leaves_by see b a p false)
      (λ e. ⊎_elim (λ one. or_left _ _ (f one)) (λ other. or_right y _ other) (or_case x (leaves_by see b a p false) e)) h
  more_leaves (lookbehind n p) x y f h = and_true _ _ (f (and_left x _ h)) (and_right x _ h)
  more_leaves (lookahead n p) x y f h = and_true _ _ (f (and_left x _ h)) (and_right x _ h)

  -- a pattern is left after what left it enters again only where it was left before
  once_more : (p : MarkedPattern) (z : Bool) → leaves_by see b a p false ≡ z → leaves_by see b a p z ≡ true → leaves_by see b a p false ≡ true
  once_more p true e h = e
  once_more p false e h = h

  -- where it is left with x and what left it entering, it is left with x alone
  no_more : (p : MarkedPattern) (x : Bool) → leaves_by see b a p (x || leaves_by see b a p false) ≡ true → leaves_by see b a p x ≡ true
  no_more p true h = h
  no_more p false h = once_more p (leaves_by see b a p false) refl h

  -- it is left alike with x entering alone and with x and what left it
  pub plus_leaves : (p : MarkedPattern) (x : Bool) → leaves_by see b a p x ≡ leaves_by see b a p (x || leaves_by see b a p false)
  plus_leaves p x = same_bool _ _ (more_leaves p x (x || leaves_by see b a p false) (or_left x _)) (no_more p x)

module _ (see : MarkedPattern → Bool) (text : List ℕ) (i : ℕ) where
  -- the marks after the character at i, and whether a way ends here
  abbrev pub left : MarkedPattern → Bool → Bool
  left = leaves_by see (before text i) (slice_get text i)

  -- the pattern with the marks after that character
  abbrev pub stepped : MarkedPattern → Bool → MarkedPattern
  stepped = step_by see (before text i) (slice_get text i)

  -- each lookbehind and lookahead in the pattern says here what is so
  abbrev pub Says : MarkedPattern → Type 0
  Says empty = Unit {0}
  Says (class m n rs) = Unit {0}
  Says (look l) = Unit {0}
  Says (cat p q) = Says p × Says q
  Says (alt p q) = Says p × Says q
  Says (star p) = Says p
  Says (plus p) = Says p
  Says (lookbehind n p) = Says p × ((left p true ≡ true) ↔ ((k : ℕ) × Matches text p k i))
  Says (lookahead n p) = (see p ≡ true) ↔ ((k : ℕ) × Matches text p i k)

  -- the ways through the pattern that end at j: from a mark, or from here where x holds
  abbrev pub Goes : MarkedPattern → Bool → ℕ → Type 0
  Goes p x j = Rest text p i j ⊎ ((x ≡ true) × Matches text p i j)

  -- they end here, or go on from a mark at the next place
  abbrev pub Went : MarkedPattern → Bool → ℕ → Type 0
  Went p x j = ((left p x ≡ true) × (i ≡ j)) ⊎ Rest text (stepped p x) (i + 1) j

  -- what the pattern after a step matches is what it matches
  to_stepped : (q : MarkedPattern) (y : Bool) (l j : ℕ) → Matches text q l j → Matches text (stepped q y) l j
  to_stepped q y l j m = subst (λ (R : ℕ → ℕ → Type 0). R l j) (sym (same_meaning see text (before text i) (slice_get text i) q y)) m

  -- and back
  from_stepped : (q : MarkedPattern) (y : Bool) (l j : ℕ) → Matches text (stepped q y) l j → Matches text q l j
  from_stepped q y l j m = subst (λ (R : ℕ → ℕ → Type 0). R l j) (same_meaning see text (before text i) (slice_get text i) q y) m

  -- the same of rounds of it
  rounds_to_stepped : (q : MarkedPattern) (y : Bool) (l j : ℕ) → Rounds (Matches text q) j l → Rounds (Matches text (stepped q y)) j l
  rounds_to_stepped q y l j m = subst (λ (R : ℕ → ℕ → Type 0). Rounds R j l) (sym (same_meaning see text (before text i) (slice_get text i) q y)) m

  -- and back
  rounds_from_stepped : (q : MarkedPattern) (y : Bool) (l j : ℕ) → Rounds (Matches text (stepped q y)) j l → Rounds (Matches text q) j l
  rounds_from_stepped q y l j m = subst (λ (R : ℕ → ℕ → Type 0). Rounds R j l) (same_meaning see text (before text i) (slice_get text i) q y) m

  -- a class that enters and reads the character here
  class_went : (n : Bool) (rs : List CharSet) (x : Bool) (c : ℕ) (j : ℕ) → x ≡ true → slice_get text i ≡ Some c → is_member n rs c ≡ true → j ≡ i + 1
      → ((x && reads (slice_get text i) n rs) ≡ true) × (i + 1 ≡ j)
  class_went n rs x c j xt at member e = (and_true _ _ xt (rw at member), sym e)

  -- a class reads only where there is a character and the class has it
  pub reads_some : (n : Bool) (rs : List CharSet) (o : Option ℕ) → reads o n rs ≡ true → (c : ℕ) × (o ≡ Some c) × (is_member n rs c ≡ true)
  reads_some n rs None h = absurd (true≢false (sym h))
  reads_some n rs (Some c) h = (c, refl, h)

  -- a class that a step marks was entered, and matches the character here
  class_goes : (n : Bool) (rs : List CharSet) (x : Bool) (j : ℕ) → (x && reads (slice_get text i) n rs) ≡ true → i + 1 ≡ j
      → (x ≡ true) × ((c : ℕ) × (slice_get text i ≡ Some c) × (is_member n rs c ≡ true) × (j ≡ i + 1))
  class_goes n rs x j h e =
      let found = reads_some n rs _ (and_right x _ h) in
      (and_left x _ h, (found.0, found.1, found.2, sym e))

  -- where rounds begin at this place
  -- they end here, or go on in the body from a mark at the next place, with rounds behind
  rounds_go : (p : MarkedPattern) (y : Bool) (j : ℕ) → ((l : ℕ) → Goes p y l → Went p y l) → y ≡ true → (k : ℕ) → k ≡ i
      → Rounds (Matches text p) j k
      → ((y ≡ true) × (i ≡ j)) ⊎ ((l : ℕ) × Rest text (stepped p y) (i + 1) l × Rounds (Matches text p) j l)
  rounds_go p y j ih yt k e (no_round _ d) = inl (yt, sym e ∙ d)
  rounds_go p y j ih yt k e (a_round _ l m s) =
      ⊎_elim (λ ended. rounds_go p y j ih yt l (sym ended.1) s) (λ rest. inr (l, rest, s))
      (ih l (inr (yt, subst (λ (z : ℕ). Matches text p z l) e m)))

  -- a way that ends in the body of a loop shows that the body is entered
  entered : (p : MarkedPattern) (x : Bool) (y : Bool) → y ≡ (x || left p false) → left p y ≡ true → y ≡ true
  entered p x true e h = refl
  entered p x false e h = e ∙ or_right x _ h

  -- rounds behind a mark in a loop's body may be of the body after a step
  star_went : (p : MarkedPattern) (y : Bool) (j : ℕ)
      → ((y ≡ true) × (i ≡ j)) ⊎ ((l : ℕ) × Rest text (stepped p y) (i + 1) l × Rounds (Matches text p) j l)
      → ((y ≡ true) × (i ≡ j)) ⊎ ((l : ℕ) × Rest text (stepped p y) (i + 1) l × Rounds (Matches text (stepped p y)) j l)
  star_went p y j (inl here) = inl here
  star_went p y j (inr (l, r, s)) = inr (l, r, rounds_to_stepped p y l j s)

  -- where a way went through the body and rounds follow, they end here or go on from a mark
  star_goes : (p : MarkedPattern) (x y : Bool) (j l : ℕ) → y ≡ (x || left p false) → ((n : ℕ) → Goes p y n → Went p y n)
      → Went p y l → Rounds (Matches text p) j l
      → ((y ≡ true) × (i ≡ j)) ⊎ ((n : ℕ) × Rest text (stepped p y) (i + 1) n × Rounds (Matches text p) j n)
  star_goes p x y j l e ih (inl (h, d)) s = rounds_go p y j ih (entered p x y e h) l (sym d) s
  star_goes p x y j l e ih (inr r) s = inr (l, r, s)

  -- where a way went through the first and the second matches behind it, one went through both
  cat_goes : (p q : MarkedPattern) (x : Bool) (j l : ℕ) → Went p x l → (Goes q (left p x) j → Went q (left p x) j) → Matches text q l j
      → Went (cat p q) x j
  cat_goes p q x j l (inl (h, d)) ih m =
      ⊎_elim (λ here. inl here) (λ rest. inr (inr rest)) (ih (inr (h, subst (λ (z : ℕ). Matches text q z j) (sym d) m)))
  cat_goes p q x j l (inr r) ih m = inr (inl (l, r, to_stepped q (left p x) l j m))

  -- a way that went through the first alternative went through the choice
  alt_left : (p q : MarkedPattern) (x : Bool) (j : ℕ) → Went p x j → Went (alt p q) x j
  alt_left p q x j (inl (h, d)) = inl (or_left _ _ h, d)
  alt_left p q x j (inr r) = inr (inl r)

  -- and one that went through the second
  alt_right : (p q : MarkedPattern) (x : Bool) (j : ℕ) → Went q x j → Went (alt p q) x j
  alt_right p q x j (inl (h, d)) = inl (or_right _ _ h, d)
  alt_right p q x j (inr r) = inr (inr r)

  -- the first round of a plus goes to l
  -- it and the rounds behind it end here, or go on from a mark at the next place
  plus_goes : (p : MarkedPattern) (x y : Bool) (j l : ℕ) → y ≡ (x || left p false) → ((n : ℕ) → Goes p y n → Went p y n)
      → Went p y l → Rounds (Matches text p) j l
      → ((left p y ≡ true) × (i ≡ j)) ⊎ ((n : ℕ) × Rest text (stepped p y) (i + 1) n × Rounds (Matches text p) j n)
  plus_goes p x y j l e ih (inl (h, d)) s =
      ⊎_elim (λ here. inl (h, here.1)) (λ rest. inr rest) (rounds_go p y j ih (entered p x y e h) l (sym d) s)
  plus_goes p x y j l e ih (inr r) s = inr (l, r, s)

  -- rounds behind a mark in the body of a plus may be of the body after a step
  plus_went : (p : MarkedPattern) (y : Bool) (j : ℕ)
      → ((left p y ≡ true) × (i ≡ j)) ⊎ ((l : ℕ) × Rest text (stepped p y) (i + 1) l × Rounds (Matches text p) j l)
      → ((left p y ≡ true) × (i ≡ j)) ⊎ ((l : ℕ) × Rest text (stepped p y) (i + 1) l × Rounds (Matches text (stepped p y)) j l)
  plus_went p y j (inl here) = inl here
  plus_went p y j (inr (l, r, s)) = inr (l, r, rounds_to_stepped p y l j s)

  -- the law, forwards
  -- ways through a pattern to a place end here, or go on from its marks after a step
  pub goes_on : (p : MarkedPattern) → Says p → (x : Bool) (j : ℕ) → Goes p x j → Went p x j
  goes_on empty u x j (inl r) = absurd r
  goes_on empty u x j (inr m) = inl m
  goes_on (class m n rs) u x j (inl r) = inl r
  goes_on (class m n rs) u x j (inr (xt, (c, at, member, e))) = inr (class_went n rs x c j xt at member e)
  goes_on (look l) u x j (inl r) = absurd r
  goes_on (look l) u x j (inr (xt, (h, e))) = inl (and_true _ _ xt h, e)
  goes_on (cat p q) u x j (inl (inl (l, r, m))) = cat_goes p q x j l (goes_on p u.0 x l (inl r)) (goes_on q u.1 (left p x) j) m
  goes_on (cat p q) u x j (inl (inr r)) = ⊎_elim (λ here. inl here) (λ rest. inr (inr rest)) (goes_on q u.1 (left p x) j (inl r))
  goes_on (cat p q) u x j (inr (xt, (l, m, n))) = cat_goes p q x j l (goes_on p u.0 x l (inr (xt, m))) (goes_on q u.1 (left p x) j) n
  goes_on (alt p q) u x j (inl (inl r)) = alt_left p q x j (goes_on p u.0 x j (inl r))
  goes_on (alt p q) u x j (inl (inr r)) = alt_right p q x j (goes_on q u.1 x j (inl r))
  goes_on (alt p q) u x j (inr (xt, inl m)) = alt_left p q x j (goes_on p u.0 x j (inr (xt, m)))
  goes_on (alt p q) u x j (inr (xt, inr m)) = alt_right p q x j (goes_on q u.1 x j (inr (xt, m)))
  goes_on (star p) u x j (inl (l, r, s)) =
      star_went p (x || left p false) j (star_goes p x (x || left p false) j l refl (goes_on p u (x || left p false))
      (goes_on p u (x || left p false) l (inl r)) s)
  goes_on (star p) u x j (inr (xt, s)) =
      star_went p (x || left p false) j (rounds_go p (x || left p false) j (goes_on p u (x || left p false)) (or_left x _ xt) i refl s)
  goes_on (plus p) u x j (inl (l, r, s)) =
      plus_went p (x || left p false) j (plus_goes p x (x || left p false) j l refl (goes_on p u (x || left p false))
      (goes_on p u (x || left p false) l (inl r)) s)
  goes_on (plus p) u x j (inr (xt, (l, m, s))) =
      plus_went p (x || left p false) j (plus_goes p x (x || left p false) j l refl (goes_on p u (x || left p false))
      (goes_on p u (x || left p false) l (inr (or_left x _ xt, m))) s)
  goes_on (lookbehind n p) u x j (inl r) = absurd r
  goes_on (lookbehind n p) u x j (inr (xt, (h, e))) = inl (and_true _ _ xt ((unless_differs n _ _ u.1).1 h), e)
  goes_on (lookahead n p) u x j (inl r) = absurd r
  goes_on (lookahead n p) u x j (inr (xt, (h, e))) = inl (and_true _ _ xt ((unless_differs n _ _ u).1 h), e)

  -- what enters a loop's body came from without or from a mark within
  from_body : (p : MarkedPattern) (x : Bool) → (Went p false i → Goes p false i) → (x || left p false) ≡ true
      → (x ≡ true) ⊎ Rest text p i i
  from_body p true back h = inl refl
  from_body p false back h =
      ⊎_elim (λ r. inr r) (λ none. absurd (true≢false (sym none.0))) (back (inl (h, refl)))

  -- rounds from here go through a star that is entered, or in whose body a way ends here
  star_here : (p : MarkedPattern) (x : Bool) (j : ℕ) → Rounds (Matches text p) j i → (x ≡ true) ⊎ Rest text p i i → Goes (star p) x j
  star_here p x j s (inl xt) = inr (xt, s)
  star_here p x j s (inr r) = inl (i, r, s)

  -- a way through the body of a star, with rounds behind it, goes through the star
  star_back : (p : MarkedPattern) (x : Bool) (j l : ℕ) → (Went p false i → Goes p false i) → Goes p (x || left p false) l
      → Rounds (Matches text p) j l → Goes (star p) x j
  star_back p x j l back (inl r) s = inl (l, r, s)
  star_back p x j l back (inr (yt, m)) s = star_here p x j (a_round i l m s) (from_body p x back yt)

  -- a round and more from here go through a plus that is entered, or in whose body a way ends here
  plus_here : (p : MarkedPattern) (x : Bool) (j l : ℕ) → Matches text p i l → Rounds (Matches text p) j l → (x ≡ true) ⊎ Rest text p i i
      → Goes (plus p) x j
  plus_here p x j l m s (inl xt) = inr (xt, (l, m, s))
  plus_here p x j l m s (inr r) = inl (i, r, a_round i l m s)

  -- a way through the body of a plus, with rounds behind it, goes through the plus
  plus_back : (p : MarkedPattern) (x : Bool) (j l : ℕ) → (Went p false i → Goes p false i) → Goes p (x || left p false) l
      → Rounds (Matches text p) j l → Goes (plus p) x j
  plus_back p x j l back (inl r) s = inl (l, r, s)
  plus_back p x j l back (inr (yt, m)) s = plus_here p x j l m s (from_body p x back yt)

  -- a way through the second, entered by what leaves the first, goes through both
  cat_back : (p q : MarkedPattern) (x : Bool) (j : ℕ) → (Went p x i → Goes p x i) → Goes q (left p x) j → Goes (cat p q) x j
  cat_back p q x j back (inl r) = inl (inr r)
  cat_back p q x j back (inr (h, m)) =
      ⊎_elim (λ r. inl (inl (i, r, m))) (λ found. inr (found.0, (i, found.1, m))) (back (inl (h, refl)))

  -- a way through the first, with a match of the second behind it, goes through both
  cat_forth : (p q : MarkedPattern) (x : Bool) (j l : ℕ) → Goes p x l → Matches text q l j → Goes (cat p q) x j
  cat_forth p q x j l (inl r) m = inl (inl (l, r, m))
  cat_forth p q x j l (inr (xt, n)) m = inr (xt, (l, n, m))

  -- a way through the first alternative goes through the choice
  alt_back_left : (p q : MarkedPattern) (x : Bool) (j : ℕ) → Goes p x j → Goes (alt p q) x j
  alt_back_left p q x j (inl r) = inl (inl r)
  alt_back_left p q x j (inr (xt, m)) = inr (xt, inl m)

  -- and one through the second
  alt_back_right : (p q : MarkedPattern) (x : Bool) (j : ℕ) → Goes q x j → Goes (alt p q) x j
  alt_back_right p q x j (inl r) = inl (inr r)
  alt_back_right p q x j (inr (xt, m)) = inr (xt, inr m)

  -- the law, backwards
  -- what ends here, or goes on from a mark after a step, is a way through the pattern
  pub goes_back : (p : MarkedPattern) → Says p → (x : Bool) (j : ℕ) → Went p x j → Goes p x j
  goes_back empty u x j (inl m) = inr m
  goes_back empty u x j (inr r) = absurd r
  goes_back (class m n rs) u x j (inl r) = inl r
  goes_back (class m n rs) u x j (inr (h, e)) = inr (class_goes n rs x j h e)
  goes_back (look l) u x j (inl (h, e)) = inr (and_left x _ h, (and_right x _ h, e))
  goes_back (look l) u x j (inr r) = absurd r
  goes_back (cat p q) u x j (inl here) = cat_back p q x j (goes_back p u.0 x i) (goes_back q u.1 (left p x) j (inl here))
  goes_back (cat p q) u x j (inr (inl (l, r, m))) = cat_forth p q x j l (goes_back p u.0 x l (inr r)) (from_stepped q (left p x) l j m)
  goes_back (cat p q) u x j (inr (inr r)) = cat_back p q x j (goes_back p u.0 x i) (goes_back q u.1 (left p x) j (inr r))
  goes_back (alt p q) u x j (inl (h, e)) =
      ⊎_elim (λ one. alt_back_left p q x j (goes_back p u.0 x j (inl (one, e)))) (λ other. alt_back_right p q x j (goes_back q u.1 x j (inl (other, e))))
      (or_case (left p x) (left q x) h)
  goes_back (alt p q) u x j (inr (inl r)) = alt_back_left p q x j (goes_back p u.0 x j (inr r))
  goes_back (alt p q) u x j (inr (inr r)) = alt_back_right p q x j (goes_back q u.1 x j (inr r))
  goes_back (star p) u x j (inl (h, e)) = star_here p x j (no_round i e) (from_body p x (goes_back p u false i) h)
  goes_back (star p) u x j (inr (l, r, s)) =
      star_back p x j l (goes_back p u false i) (goes_back p u (x || left p false) l (inr r)) (rounds_from_stepped p (x || left p false) l j s)
  goes_back (plus p) u x j (inl (h, e)) =
      plus_back p x j i (goes_back p u false i) (goes_back p u (x || left p false) i (inl (h, refl))) (no_round i e)
  goes_back (plus p) u x j (inr (l, r, s)) =
      plus_back p x j l (goes_back p u false i) (goes_back p u (x || left p false) l (inr r)) (rounds_from_stepped p (x || left p false) l j s)
  goes_back (lookbehind n p) u x j (inl (h, e)) = inr (and_left x _ h, ((unless_differs n _ _ u.1).0 (and_right x _ h), e))
  goes_back (lookbehind n p) u x j (inr r) = absurd r
  goes_back (lookahead n p) u x j (inl (h, e)) = inr (and_left x _ h, ((unless_differs n _ _ u).0 (and_right x _ h), e))
  goes_back (lookahead n p) u x j (inr r) = absurd r

  -- at the end of the text no mark is left
  pub none_after_end : slice_get text i ≡ None → (p : MarkedPattern) (x : Bool) (k j : ℕ) → Rest text (stepped p x) k j → ⊥
  none_after_end e empty x k j r = r
  none_after_end e (class m n rs) x k j r = no_reading e n rs x r.0
    where
      -- at the end of the text no class reads
      no_reading : slice_get text i ≡ None → (n : Bool) (rs : List CharSet) (x : Bool) → (x && reads (slice_get text i) n rs) ≡ true → ⊥
      no_reading e n rs x h = true≢false (sym (rw e at (and_right x _ h)))
  none_after_end e (look l) x k j r = r
  none_after_end e (cat p q) x k j (inl (l, r, m)) = none_after_end e p x k l r
  none_after_end e (cat p q) x k j (inr r) = none_after_end e q (left p x) k j r
  none_after_end e (alt p q) x k j (inl r) = none_after_end e p x k j r
  none_after_end e (alt p q) x k j (inr r) = none_after_end e q x k j r
  none_after_end e (star p) x k j r = none_after_end e p (x || left p false) k r.0 r.1
  none_after_end e (plus p) x k j r = none_after_end e p (x || left p false) k r.0 r.1
  none_after_end e (lookbehind n p) x k j r = r
  none_after_end e (lookahead n p) x k j r = r
