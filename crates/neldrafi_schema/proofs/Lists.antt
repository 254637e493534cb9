-- Lists: an element at a place, and facts of each element.
use Rattle.std.proofs.Common.{◌≡◌, ℕ, zero, suc, ◌+◌, ◌-◌, ◌<◌, ◌≤◌, List, [], ◌∷◌, ◌++◌, length, get_or, take, drop, map, refl, sym, ap, ◌∙◌, arith, None, Some, add-one, append_assoc, ◌==◌, eqb-true, Bool, true, false}
use Rattle.std.proofs.lemmas.Bool.{false≢true}
use Rattle.std.proofs.Math.Seq.{drop-cons}
use Rattle.std.proofs.lemmas.List.{map-append, take_all, take_more}
use Rattle.std.proofs.lemmas.Option.{slice_get-get_or}
use Rattle.std.specs.List.{AllByRecursion, slice_get}

-- the elements before a place, that one, and those behind it
pub split_at : {A : Type 0} (xs : List A) (i : ℕ) (x : A) → i < length xs → x ≡ get_or xs i x → xs ≡ take i xs ++ x ∷ drop (suc i) xs
split_at [] i x h e = absurd (omega arith)
split_at (y ∷ ys) zero x h e = ap (λ z. z ∷ ys) (sym e)
split_at (y ∷ ys) (suc i) x h e = ap (λ l. y ∷ l) (split_at ys i x (omega arith) e)

-- one element more
pub take_one : {A : Type 0} (xs : List A) (i : ℕ) (x : A) → i < length xs → x ≡ get_or xs i x → take (i + 1) xs ≡ take i xs ++ x ∷ []
take_one xs i x h e = take_more xs i x h ∙ ap (λ y. take i xs ++ y ∷ []) (sym e)

-- what is left, with its first element, and at the end
pub drop_one : {A : Type 0} (xs : List A) (i : ℕ) (x : A) → i < length xs → x ≡ get_or xs i x → drop i xs ≡ x ∷ drop (i + 1) xs
drop_one {A = A} xs i x h e = drop-cons xs i x h ∙ ap (λ (y : A). y ∷ drop (suc i) xs) (sym e) ∙ ap (λ n. x ∷ drop n xs) (sym (add-one i))

pub drop_past : {A : Type 0} (xs : List A) (i : ℕ) → length xs ≤ i → drop i xs ≡ []
drop_past [] zero h = refl
drop_past [] (suc i) h = refl
drop_past (x ∷ xs) zero h = absurd (omega arith)
drop_past (x ∷ xs) (suc i) h = drop_past xs i (omega arith)

-- what holds of each holds of one
pub all_at : {A : Type 0} (P : A → Type 0) (xs : List A) (i : ℕ) (x : A) → AllByRecursion P xs → i < length xs → x ≡ get_or xs i x → P x
all_at P [] i x all h e = absurd (omega arith)
all_at P (y ∷ ys) zero x all h e = rw e all.0
all_at P (y ∷ ys) (suc i) x all h e = all_at P ys i x all.1 (omega arith) e

pub all_got : {A : Type 0} (P : A → Type 0) (xs : List A) (i : ℕ) (none : A) → AllByRecursion P xs → i < length xs → P (get_or xs i none)
all_got P [] i none all h = absurd (omega arith)
all_got P (y ∷ ys) zero none all h = all.0
all_got P (y ∷ ys) (suc i) none all h = all_got P ys i none all.1 (omega arith)

-- the element at a place
pub there : {A : Type 0} (xs : List A) (i : ℕ) (x : A) → i < length xs → x ≡ get_or xs i x → slice_get xs i ≡ Some x
there xs i x h e = slice_get-get_or xs i x h ∙ ap Some (sym e)

-- a list that is nothing is made of nothing
pub nil_left : {A : Type 0} (xs ys : List A) → [] ≡ xs ++ ys → xs ≡ []
nil_left [] ys e = refl
nil_left (x ∷ xs) ys e = cc

pub nil_right : {A : Type 0} (xs ys : List A) → [] ≡ xs ++ ys → ys ≡ []
nil_right [] ys e = sym e
nil_right (x ∷ xs) ys e = cc

-- a slice taken apart at its first element
pub first_and_others : {A : Type 0} (xs : List A) (none : A) → 1 ≤ length xs → xs ≡ get_or xs 0 none ∷ take (length xs - 1) (drop 1 xs)
first_and_others [] none h = absurd (omega arith)
first_and_others (x ∷ xs) none h = ap (λ l. x ∷ l) (sym (take_all (length (x ∷ xs) - 1) xs (omega arith)))

pub nothing_in : {A : Type 0} (xs : List A) → length xs ≡ 0 → xs ≡ []
nothing_in [] e = refl
nothing_in (x ∷ xs) e = absurd (omega arith)

pub past_end : {A : Type 0} (xs : List A) (i : ℕ) → slice_get xs i ≡ None → length xs ≤ i
past_end [] i e = omega arith
past_end (x ∷ xs) zero e = cc
past_end (x ∷ xs) (suc i) e = omega (arith, past_end xs i e)

-- what is made of a list with one element more at its end
pub mapped_more : {A B : Type 0} (f : A → B) (xs more : List A) (x : A) (y : B) (rest all : List B) → map f xs ++ y ∷ rest ≡ all → f x ≡ y
    → more ≡ xs ++ x ∷ [] → map f more ++ rest ≡ all
mapped_more f xs more x y rest all before same e =
    ap (λ l. map f l ++ rest) e ∙ ap (λ l. l ++ rest) (map-append f xs (x ∷ [])) ∙ append_assoc (map f xs) (f x ∷ []) rest
    ∙ ap (λ z. map f xs ++ z ∷ rest) same ∙ before

-- a list that is told to be empty, or not
pub empty_by : {A : Type 0} (xs : List A) (n : ℕ) (b : Bool) → b ≡ (n == 0) → n ≡ length xs → b ≡ true → xs ≡ []
empty_by xs n b told long e = nothing_in xs (sym long ∙ eqb-true n 0 (sym told ∙ e))

pub not_empty_by : {A : Type 0} (xs : List A) (n : ℕ) (b : Bool) → b ≡ (n == 0) → n ≡ length xs → b ≡ false → xs ≡ [] → ⊥
not_empty_by xs n b told long e none =
    let zero_long : n ≡ 0 = long ∙ ap length none in
    false≢true (sym e ∙ told ∙ ap (λ m. m == 0) zero_long)
