-- A text from a place on, options and numbers below another.
use Rattle.std.proofs.Common.{◌≡◌, ◌⊎◌, ℕ, ◌+◌, ◌<◌, sym, subst, ⊎_elim, arith, suc, List, ◌∷◌, length, get_or, drop, drop-cons, Some, ap, ◌∙◌}

-- a number less than one more than another is less than that, or is that
last_or_before : (row n : ℕ) → row < n + 1 → (row < n) ⊎ (row ≡ n)
last_or_before row n h = grind arith

-- what holds of the numbers below n, and of n
-- holds of those below n + 1
pub one_more : (P : ℕ → Type 0) (n : ℕ) → P n → ((k : ℕ) → k < n → P k) → (k : ℕ) → k < n + 1 → P k
one_more P n here before k h =
    ⊎_elim (λ below. before k below) (λ same. subst P (sym same) here) (last_or_before k n h)

-- from its place on a text is the character there, and what stands from the next place on
pub at_place : (text : List ℕ) (k next c : ℕ) → k < length text → c ≡ get_or text k c → next ≡ suc k → drop k text ≡ c ∷ drop next text
at_place text k next c within is follows =
    drop-cons text k c within ∙ ap (λ (d : ℕ). d ∷ drop (suc k) text) (sym is) ∙ ap (λ (n : ℕ). c ∷ drop n text) (sym follows)

-- what is the same as options is the same
pub some_same : {A : Type 0} (x y : A) → Some x ≡ Some y → x ≡ y
some_same x y e = cc
