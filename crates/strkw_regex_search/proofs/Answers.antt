-- The search as a function is true exactly where the pattern is found.
use Rattle.std.proofs.Common.{◌≡◌, ◌⊎◌, ◌↔◌, ℕ, suc, ◌<◌, ◌≤◌, Bool, true, false, ◌||◌, List, [], ◌∷◌, Option, Some, None, length, get_or, drop}
use Rattle.std.proofs.Common.{drop-cons, length-drop, drop_of_length-le, IsTrue, refl, sym, ap, ◌∙◌, inl, inr, arith}
use Rattle.strkw_regex_core.specs.machine.MarkedPattern.{MarkedPattern}
use Rattle.strkw_regex_core.specs.Meaning.{before}
use Rattle.strkw_regex_core.specs.machine.MarkedMeaning.{Found}
use Rattle.strkw_regex_core.specs.machine.OneCharLookahead.{are_told}
use Rattle.strkw_regex_core.specs.machine.Positions.{leaves, step, Kept, Later, is_clean}
use Rattle.strkw_regex_search.specs.machine.Search.{search_from}
use Rattle.strkw_regex_core.proofs.Behind.{seen_from, kept_first}
use Rattle.strkw_regex_core.proofs.Search.{at_first, at_end, is_behind, found_here, still_kept, not_yet}

-- lists that are the same begin with the same
first_of_cons : (c d : ℕ) (xs ys : List ℕ) → c ∷ xs ≡ d ∷ ys → c ≡ d
first_of_cons c d xs ys e = ap (λ (l : List ℕ). get_or l 0 c) e

-- and go on with the same
rest_of_cons : (c d : ℕ) (xs ys : List ℕ) → c ∷ xs ≡ d ∷ ys → xs ≡ ys
rest_of_cons c d xs ys e = ap (drop 1) e

-- one of two answers is true exactly where F holds, if the first gives F, or else the second tells it
one_turn : (x y : Bool) (F : Type 0) → (x ≡ true → F) → (x ≡ false → IsTrue y ↔ F) → IsTrue (x || y) ↔ F
one_turn true y F f g = (λ _. f refl, λ _. refl)
one_turn false y F f g = g refl

-- two equivalences, one behind the other, are one
both : {A B C : Type 0} → A ↔ B → B ↔ C → A ↔ C
both e f = (λ a. f.0 (e.0 a), λ c. e.1 (f.1 c))

module _ (text : List ℕ) where
  -- a place from which on a character stands lies in the text
  inside : (k c : ℕ) (cs : List ℕ) → drop k text ≡ c ∷ cs → (k < length text) ⊎ (length text ≤ k) → k < length text
  inside k c cs e (inl w) = w
  inside k c cs e (inr w) =
      let none : 0 ≡ suc (length cs) = sym (ap length (drop_of_length-le text {i = k} w)) ∙ ap length e in
      absurd (omega arith)

  -- a number is less than another, or is at least that
  either_side : (k n : ℕ) → (k < n) ⊎ (n ≤ k)
  either_side k n = grind arith

  -- from a place on the search is true exactly where a match is under way or begins there or later
  by_place : (cs : List ℕ) (k : ℕ) (p : MarkedPattern) (last : Option ℕ) → Kept (seen_from text) text p k → last ≡ before text k → drop k text ≡ cs → k ≤ length text
      → IsTrue (search_from p last cs) ↔ Later text p k
  by_place [] k p last kept after e h =
      let whole : k ≡ length text = omega (arith, sym (length-drop k text) ∙ ap length e) in
      at_end text p k last kept whole after _ refl _ (λ w. w, λ w. w)
  by_place (c ∷ cs) k p last kept after e h =
      let within : k < length text = inside k c cs e (either_side k (length text)) in
      let shape = sym e ∙ drop-cons text k c within in
      let is : c ≡ get_or text k c = first_of_cons _ _ _ _ shape in
      let rest : drop (suc k) text ≡ cs = sym (rest_of_cons _ _ _ _ shape) in
      let next = step last (Some c) p true in
      one_turn (leaves last (Some c) p true) _ _
      (found_here text p k (suc k) last c within is after refl kept _ refl)
      (λ w. both (by_place cs (suc k) next (Some c) (still_kept text p k (suc k) last c within is after refl kept _ refl next refl)
      (is_behind text p k (suc k) last c within is after refl kept _ refl) rest (omega arith))
      (not_yet text p k (suc k) last c within is after refl kept _ refl w next refl))

-- of a pattern without marks, whose lookaheads are told
-- the search of the text is true exactly where it is found
pub search_is_exact : (p : MarkedPattern) (text : List ℕ) → is_clean p ≡ true → are_told p ≡ true → IsTrue (search_from p None text) ↔ Found p text
search_is_exact p text h w = both (by_place text text 0 p None (kept_first text p h w) refl refl (omega arith)) (at_first text p h)

-- two answers that are true exactly where the same holds are the same
pub same_answer : (F : Type 0) (a b : Bool) → IsTrue a ↔ F → IsTrue b ↔ F → a ≡ b
same_answer F true b e f = sym (f.1 (e.0 refl))
same_answer F false true e f = e.1 (f.0 refl)
same_answer F false false e f = refl

-- a turn of a search whose answer is known: the next character is c
module _ (p : MarkedPattern) (last : Option ℕ) (c : ℕ) (left rest : List ℕ) (answer : Bool) (so_far : search_from p last left ≡ answer)
    (begins : left ≡ c ∷ rest) (ends : Bool) (ends_is : ends ≡ leaves last (Some c) p true) where
  -- it ends here, or else the search of the rest comes to the answer
  here : (ends || search_from (step last (Some c) p true) (Some c) rest) ≡ answer
  here = ap (λ (b : Bool). b || search_from (step last (Some c) p true) (Some c) rest) ends_is ∙ sym (ap (search_from p last) begins) ∙ so_far

  -- where it does not end here, the search of the rest does
  pub search_turn : ends ≡ false → search_from (step last (Some c) p true) (Some c) rest ≡ answer
  search_turn e = sym (ap (λ (b : Bool). b || search_from (step last (Some c) p true) (Some c) rest) e) ∙ here

  -- where it does, the answer is yes
  pub search_found : ends ≡ true → true ≡ answer
  search_found e = sym (ap (λ (b : Bool). b || search_from (step last (Some c) p true) (Some c) rest) e) ∙ here

-- at the end it comes to what ends there
pub search_ends : (p : MarkedPattern) (last : Option ℕ) (left : List ℕ) (answer : Bool) → search_from p last left ≡ answer → left ≡ [] → (ends : Bool)
    → ends ≡ leaves last None p true → ends ≡ answer
search_ends p last left answer so_far none ends is = is ∙ sym (ap (search_from p last) none) ∙ so_far
