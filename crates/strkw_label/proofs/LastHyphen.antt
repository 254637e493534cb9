-- What stands before and after the last element that passes a test.
use Rattle.std.proofs.Common.{◌≡◌, ℕ, ◌+◌, ◌-◌, ◌<◌, Bool, true, not, List, reverse, [], ◌∷◌, ◌++◌, length, All, get_or, take, drop, sym, ap, subst, ◌∙◌}
use Rattle.std.proofs.Common.{append_assoc, length-append, arith}
use Rattle.std.specs.List.{before_last, after_last, suffix_len}
use Rattle.std.proofs.lemmas.Bool.{not-false}
use Rattle.std.proofs.lemmas.List.{length-take, get_or_append_left, get_or-append_right, drop_more, take-append-drop, length-reverse, get_or-reverse}
use Rattle.std.proofs.lemmas.List.Sums.{suffix_len_is, prefix_len_stops}
use Rattle.std.proofs.Math.Seq.{take-append_seam, drop-append_seam, get_or-append_seam}

-- ---- where the last element that passes is known

-- the elements behind it are all that fails at the end
tail : (p : ℕ → Bool) (front : List ℕ) (x : ℕ) (back : List ℕ) → p x ≡ true → All (λ c. not (p c) ≡ true) back
    → suffix_len (λ c. not (p c)) (front ++ x ∷ back) ≡ length back
tail p front x back passes none =
    let head = front ++ x ∷ [] in
    let whole = head ++ back in
    let upto : length head ≡ length front + 1 = length-append front (x ∷ []) in
    let long : length whole ≡ length head + length back = length-append head back in
    let at : suffix_len (λ c. not (p c)) whole ≡ length whole - (length front + 1) =
    suffix_len_is (λ c. not (p c)) whole (length front + 1) 0 (omega (arith, upto, long))
    (λ k le lt. ap (λ c. not (p c)) (get_or-append_right head back (length front + 1) k 0 upto le)
    ∙ none (k - (length front + 1)) 0 (omega (arith, upto, long)))
    (λ some. ap (λ c. not (p c)) (ap (λ i. get_or whole i 0) (let i : length front + 1 - 1 ≡ length front = omega arith in i)
    ∙ get_or_append_left head back 0 (length front) (omega (arith, upto)) ∙ get_or-append_seam front x [] 0) ∙ ap not passes) in
    let same : suffix_len (λ c. not (p c)) whole ≡ length back = omega (arith, at, upto, long) in
    subst (λ l. suffix_len (λ c. not (p c)) l ≡ length back) (append_assoc front (x ∷ []) back) same

-- where no element passes, nothing stands before the last that does
pub before_last_none : (p : ℕ → Bool) (xs : List ℕ) → All (λ c. not (p c) ≡ true) xs → before_last p xs ≡ []
before_last_none p xs none =
    let all : suffix_len (λ c. not (p c)) xs ≡ length xs - 0 =
    suffix_len_is (λ c. not (p c)) xs 0 0 (omega arith) (λ k le lt. none k 0 lt) (λ some. absurd (omega arith)) in
    let zero : length xs - suffix_len (λ c. not (p c)) xs - 1 ≡ 0 = omega (arith, all) in
    ap (λ n. take n xs) zero

-- what stands before it is the front
pub before_last_at : (p : ℕ → Bool) (front : List ℕ) (x : ℕ) (back : List ℕ) → p x ≡ true → All (λ c. not (p c) ≡ true) back
    → before_last p (front ++ x ∷ back) ≡ front
before_last_at p front x back passes none =
    let at : length (front ++ x ∷ back) - suffix_len (λ c. not (p c)) (front ++ x ∷ back) - 1 ≡ length front =
    omega (arith, tail p front x back passes none, length-append front (x ∷ back)) in
    ap (λ n. take n (front ++ x ∷ back)) at ∙ take-append_seam front (x ∷ back)

-- and what stands after it is the back
pub after_last_at : (p : ℕ → Bool) (front : List ℕ) (x : ℕ) (back : List ℕ) → p x ≡ true → All (λ c. not (p c) ≡ true) back
    → after_last p (front ++ x ∷ back) ≡ back
after_last_at p front x back passes none =
    let head = front ++ x ∷ [] in
    let at : length (front ++ x ∷ back) - suffix_len (λ c. not (p c)) (front ++ x ∷ back) ≡ length head =
    omega (arith, tail p front x back passes none, length-append front (x ∷ back), length-append front (x ∷ [])) in
    ap (λ n. drop n (front ++ x ∷ back)) at ∙ ap (drop (length head)) (sym (append_assoc front (x ∷ []) back)) ∙ drop-append_seam head back

-- ---- where something stands before it

-- the list is what stands before it, an element that passes, and what stands after it
pub split_at_last : (p : ℕ → Bool) (xs : List ℕ) → 0 < length (before_last p xs) → (x : ℕ) × (p x ≡ true) × (before_last p xs ++ x ∷ after_last p xs ≡ xs)
split_at_last p xs some =
    let failing = suffix_len (λ c. not (p c)) xs in
    let at = length xs - failing - 1 in
    let inside : at < length xs = omega (arith, some, length-take at xs) in
    let stops = prefix_len_stops (λ c. not (p c)) (reverse xs) 0 (omega (arith, some, length-take at xs, length-reverse xs)) in
    let same : length xs - 1 - failing ≡ at = omega arith in
    let read = get_or-reverse xs failing 0 (omega (arith, some, length-take at xs)) ∙ ap (λ i. get_or xs i 0) same in
    let next : at + 1 ≡ length xs - failing = omega (arith, some, length-take at xs) in (
      get_or xs at 0,
      not-false _ (ap (λ c. not (p c)) (sym read) ∙ stops),
      ap (λ n. take at xs ++ get_or xs at 0 ∷ drop n xs) (sym next) ∙ ap (λ r. take at xs ++ r) (sym (drop_more xs at 0 inside)) ∙ take-append-drop at xs,
    )
