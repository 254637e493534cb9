-- The search of a whole text, place by place.
use Rattle.std.proofs.Common.{◌≡◌, ◌⊎◌, ◌↔◌, ℕ, suc, ◌+◌, ◌-◌, ◌<◌, ◌≤◌, ◌==◌, Bool, true, false, List, Option, Some, None, length, get_or, slice_get}
use Rattle.std.proofs.Common.{IsTrue, refl, sym, ap, subst, ◌∙◌, inl, inr, ⊎_elim, true≢false, arith}
use Rattle.std.proofs.lemmas.Bool.Decides.{nat_tests}
use Rattle.std.proofs.lemmas.Option.{slice_get_past, slice_get_read}
use Rattle.strkw_regex_core.specs.machine.MarkedPattern.{MarkedPattern}
use Rattle.strkw_regex_core.specs.Meaning.{before}
use Rattle.strkw_regex_core.specs.machine.MarkedMeaning.{Matches, Found}
use Rattle.strkw_regex_core.specs.machine.Positions.{leaves, step, Kept, Later, is_clean}
use Rattle.strkw_regex_core.proofs.Steps.{Says, same_meaning, left, stepped, goes_on, goes_back, none_after_end}
use Rattle.strkw_regex_core.proofs.Behind.{seen_from, says_of, kept_next, none_under_way}

-- where the marks within lookbehinds are those of all ways that have begun
module _ (text : List ℕ) (p : MarkedPattern) (k : ℕ) (within : k ≤ length text) (kept : Kept (seen_from text) text p k) where
  -- at this place, each lookbehind and lookahead says what is so
  says : Says (seen_from text k) text k p
  says = says_of (seen_from text) text k within p kept

  -- a match that is under way or begins later ends here, or is under way or begins later at the next place
  pub later_step : Later text p k → (left (seen_from text k) text k p true ≡ true) ⊎ Later text (stepped (seen_from text k) text k p true) (k + 1)
  later_step (inl (j, r)) =
      ⊎_elim (λ here. inl here.0) (λ rest. inr (inl (j, rest))) (goes_on (seen_from text k) text k p says true j (inl r))
  later_step (inr (i, j, above, inside, m)) = ⊎_elim at_once afterwards (at_or_above k i above)
    where
      -- a place that is not before another is that one, or lies behind it
      at_or_above : (k i : ℕ) → k ≤ i → (k ≡ i) ⊎ (k + 1 ≤ i)
      at_or_above k i h = grind arith

      -- the same of a match that begins here
      at_once : k ≡ i → (left (seen_from text k) text k p true ≡ true) ⊎ Later text (stepped (seen_from text k) text k p true) (k + 1)
      at_once e =
          ⊎_elim (λ here. inl here.0) (λ rest. inr (inl (j, rest)))
          (goes_on (seen_from text k) text k p says true j (inr (refl, subst (λ (z : ℕ). Matches text p z j) (sym e) m)))

      -- and of one that begins later
      afterwards : k + 1 ≤ i → (left (seen_from text k) text k p true ≡ true) ⊎ Later text (stepped (seen_from text k) text k p true) (k + 1)
      afterwards h = inr (inr (i, j, h, inside, subst (λ (R : ℕ → ℕ → Type 0). R i j) (sym (same_meaning (seen_from text k) text _ _ p true)) m))

  -- and back from the next place
  pub later_back : Later text (stepped (seen_from text k) text k p true) (k + 1) → Later text p k
  later_back (inl (j, r)) =
      ⊎_elim (λ r. inl (j, r)) (λ found. inr (k, j, omega arith, within, found.1)) (goes_back (seen_from text k) text k p says true j (inr r))
  later_back (inr (i, j, above, inside, m)) =
      inr (i, j, omega arith, inside, subst (λ (R : ℕ → ℕ → Type 0). R i j) (same_meaning (seen_from text k) text _ _ p true) m)

  -- and where a match ends here, it is under way or begins here
  pub here_back : left (seen_from text k) text k p true ≡ true → Later text p k
  here_back h =
      ⊎_elim (λ r. inl (k, r)) (λ found. inr (k, k, omega arith, within, found.1))
      (goes_back (seen_from text k) text k p says true k (inl (h, refl)))

-- for a pattern without marks a match is under way or begins at the first place or later exactly where it is found
pub at_first : (text : List ℕ) (p : MarkedPattern) → is_clean p ≡ true → Later text p 0 ↔ Found p text
at_first text p h = (first, λ f. inr (f.0, f.1, omega arith, f.2, f.3))
  where
    -- what is under way or begins from the first place on is found
    first : Later text p 0 → Found p text
    first (inl (j, r)) = absurd (none_under_way text p 0 j h r)
    first (inr (i, j, above, within, m)) = (i, j, within, m)

-- no match begins beyond the end
-- at the end a match is under way or begins exactly where one ends there
pub at_last : (text : List ℕ) (p : MarkedPattern) (k : ℕ) → Kept (seen_from text) text p k → length text ≡ k
    → Later text p k ↔ (left (seen_from text k) text k p true ≡ true)
at_last text p k kept e = (λ w. ⊎_elim (λ h. h) (λ w. absurd (beyond w)) (later_step text p k whole kept w), here_back text p k whole kept)
  where
    whole : k ≤ length text
    whole = omega (arith, e)

    -- at the end no character stands
    none_here : slice_get text k ≡ None
    none_here = slice_get_past text k (omega arith)

    -- behind the end no match is under way, and none begins
    beyond : Later text (stepped (seen_from text k) text k p true) (k + 1) → ⊥
    beyond (inl (j, r)) = none_after_end (seen_from text k) text k none_here p true (k + 1) j r
    beyond (inr (i, j, above, within, m)) = absurd (omega arith)

-- over a place at which nothing is found
pub passes : (text : List ℕ) (p : MarkedPattern) (k : ℕ) → Kept (seen_from text) text p k → k ≤ length text
    → left (seen_from text k) text k p true ≡ false
    → Later text (stepped (seen_from text k) text k p true) (k + 1) ↔ Later text p k
passes text p k kept h none =
    (later_back text p k h kept, λ w. ⊎_elim (λ here. absurd (true≢false (sym here ∙ none))) (λ w. w) (later_step text p k h kept w))

-- the character before the next place is the one at this place
pub before_next : (text : List ℕ) (k : ℕ) → before text (suc k) ≡ slice_get text k
before_next text k =
    let e : suc k - 1 ≡ k = omega arith in
    let some : (suc k == 0) ≡ false = grind (arith, nat_tests) in
    rw (some, e) refl

-- a turn of the search: the character c stands at place k, and `next` is the place behind it
module _ (text : List ℕ) (p : MarkedPattern) (k next : ℕ) (last : Option ℕ) (c : ℕ) (within : k < length text) (is : c ≡ get_or text k c)
    (after : last ≡ before text k) (follows : next ≡ suc k) (kept : Kept (seen_from text) text p k) (answer : Bool)
    (left_is : answer ≡ leaves last (Some c) p true) where
  -- it is there
  here : slice_get text k ≡ Some c
  here = slice_get_read text _ k c refl within is

  -- the answer says whether a way ends here
  answer_is : answer ≡ left (seen_from text k) text k p true
  answer_is = left_is ∙ rw (after, here) refl

  -- the character stands before the next place
  pub is_behind : Some c ≡ before text next
  is_behind = sym here ∙ sym (before_next text k) ∙ ap (before text) (sym follows)

  -- where the answer is true, a match is under way or begins here or later
  pub found_here : answer ≡ true → Later text p k
  found_here said = here_back text p k (omega arith) kept (sym answer_is ∙ said)

  -- behind the character the marks within lookbehinds are kept
  pub still_kept : (q : MarkedPattern) → q ≡ step last (Some c) p true → Kept (seen_from text) text q next
  still_kept q e =
      let stepped_is : q ≡ stepped (seen_from text k) text k p true = e ∙ rw (after, here) refl in
      let next_is : next ≡ k + 1 = omega arith in
      rw (stepped_is, next_is) (kept_next (seen_from text) text k (omega arith) p true kept)

  -- where it is false, a match is still to come at the next place exactly where it is here
  pub not_yet : answer ≡ false → (q : MarkedPattern) → q ≡ step last (Some c) p true → Later text q next ↔ Later text p k
  not_yet said q e =
      let stepped_is : q ≡ stepped (seen_from text k) text k p true = e ∙ rw (after, here) refl in
      let next_is : next ≡ k + 1 = omega arith in
      rw (stepped_is, next_is) (passes text p k kept (omega arith) (sym answer_is ∙ said))

-- the end of the search
-- there the answer is true exactly where what was to be found is
pub at_end : (text : List ℕ) (p : MarkedPattern) (k : ℕ) (last : Option ℕ) → Kept (seen_from text) text p k → k ≡ length text → last ≡ before text k → (answer : Bool)
    → answer ≡ leaves last None p true → (F : Type 0) → Later text p k ↔ F → IsTrue answer ↔ F
at_end text p k last kept e after answer is F found =
    let none : slice_get text k ≡ None = slice_get_past text k (omega arith) in
    let same : answer ≡ left (seen_from text k) text k p true = is ∙ rw (after, none) refl in
    (λ h. found.0 ((at_last text p k kept (sym e)).1 (sym same ∙ h)), λ f. same ∙ (at_last text p k kept (sym e)).0 (found.1 f))
