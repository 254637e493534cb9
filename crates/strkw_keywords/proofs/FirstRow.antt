-- On the first row of a name.
use Rattle.std.proofs.Common.{◌≡◌, ◌<◌, ℕ, zero, suc, ◌+◌, List, [], ◌∷◌, Bool, true, false, Option, Some, None, refl, sym, ap, ◌∙◌, subst, arith, slice_get}
use Rattle.std.proofs.Common.{cond}
use Rattle.std.specs.List.{position_from}
use Rattle.std.specs.Str.{bytes_eq}
use Rattle.std.proofs.lemmas.Bool.Decides.{not_from_Decides}
use Rattle.std.proofs.lemmas.Option.{none-some, same_Some}
use Rattle.std.proofs.lemmas.Slice.Eq.{bytes_eq-Decides}
use Rattle.strkw_keywords.specs.Laws.{FirstRowCounts}

-- where the name stands first, counted from i
abbrev pub from : List ℕ → ℕ → List (List ℕ) → Option ℕ
from name i names = position_from (λ n. bytes_eq n name) i names

-- the name stands at k and nowhere before
pub record StandsFirst (name : List ℕ) (names : List (List ℕ)) (k : ℕ) : Type 0 where
  pub there : slice_get names k ≡ Some name
  pub not_before : (i : ℕ) → i < k → slice_get names i ≡ Some name → ⊥

-- names that do not compare as equal are not the same
other_name : (x name : List ℕ) → bytes_eq x name ≡ false → x ≡ name → ⊥
other_name x name e is = not_from_Decides (bytes_eq x name) (bytes_eq-Decides x name) e is

-- with another name in front, a name that stands first at k stands nowhere up to k
not_before-later : (name x : List ℕ) (xs : List (List ℕ)) (k : ℕ) → bytes_eq x name ≡ false → StandsFirst name xs k → (i : ℕ) → i < suc k
    → slice_get (x ∷ xs) i ≡ Some name → ⊥
not_before-later name x xs k e h zero l is = other_name x name e (same_Some x name is)
not_before-later name x xs k e h (suc i) l is = h.not_before i (omega arith) is

-- and it stands first one place later
later : (name x : List ℕ) (xs : List (List ℕ)) (k : ℕ) → bytes_eq x name ≡ false → StandsFirst name xs k → StandsFirst name (x ∷ xs) (suc k)
later name x xs k e h = record { there = h.there; not_before = not_before-later name x xs k e h }

-- the place that a search answers, which began at i
abbrev pub StandsFrom : List ℕ → List (List ℕ) → ℕ → ℕ → Type 0
StandsFrom name names i at = (k : ℕ) × (at ≡ i + k) × StandsFirst name names k

-- what a search finds from a row on is right, where what it finds behind that row is
found_by : (name x : List ℕ) (xs : List (List ℕ)) (i at : ℕ) (b : Bool) → bytes_eq x name ≡ b → (from name (i + 1) xs ≡ Some at → StandsFrom name xs (i + 1) at)
    → cond b (Some i) (from name (i + 1) xs) ≡ Some at → StandsFrom name (x ∷ xs) i at
found_by name x xs i at true t ih e = (
  zero,
  sym (same_Some i at e) ∙ omega arith,
  record {
    there = ap Some ((bytes_eq-Decides x name).0 t);
    not_before = λ j l is. absurd (omega arith);
  },
)
found_by name x xs i at false t ih e =
    let rest = ih e in
    (suc rest.0, rest.1 ∙ omega arith, later name x xs rest.0 t rest.2)

-- the place that a search finds, which began at i, is where the name stands first
found_at : (name : List ℕ) (names : List (List ℕ)) (i at : ℕ) → from name i names ≡ Some at → StandsFrom name names i at
found_at name [] i at e = absurd (none-some at e)
found_at name (x ∷ xs) i at e = found_by name x xs i at (bytes_eq x name) refl (found_at name xs (i + 1) at) e

-- where a search behind a row finds what stands first there, so does one from the row
stands_by : (name x : List ℕ) (xs : List (List ℕ)) (i k : ℕ) (b : Bool) → bytes_eq x name ≡ b
    → (StandsFirst name xs k → from name (i + 1) xs ≡ Some (i + 1 + k)) → StandsFirst name (x ∷ xs) (suc k)
    → cond b (Some i) (from name (i + 1) xs) ≡ Some (i + suc k)
stands_by name x xs i k true t ih h = absurd (h.not_before zero (omega arith) (ap Some ((bytes_eq-Decides x name).0 t)))
stands_by name x xs i k false t ih h = ih (record { there = h.there; not_before = λ j l is. h.not_before (suc j) (omega arith) is }) ∙ ap Some (omega arith)

-- a name that stands first at k is found k places on from where the search began
stands_at : (name : List ℕ) (names : List (List ℕ)) (i k : ℕ) → StandsFirst name names k → from name i names ≡ Some (i + k)
stands_at name [] i k h = absurd (none-some name h.there)
stands_at name (x ∷ xs) i zero h = rw ((bytes_eq-Decides x name).1 (same_Some x name h.there)) (ap Some (omega arith))
stands_at name (x ∷ xs) i (suc k) h = stands_by name x xs i k (bytes_eq x name) refl (stands_at name xs (i + 1) k) h

-- the name stands nowhere
abbrev pub StandsNowhere : List ℕ → List (List ℕ) → Type 0
StandsNowhere name names = (k : ℕ) → slice_get names k ≡ Some name → ⊥

-- where not found behind a row means standing nowhere there, so it does from the row on
nowhere_by : (name x : List ℕ) (xs : List (List ℕ)) (i : ℕ) (b : Bool) → bytes_eq x name ≡ b → (from name (i + 1) xs ≡ None → StandsNowhere name xs)
    → cond b (Some i) (from name (i + 1) xs) ≡ None → StandsNowhere name (x ∷ xs)
nowhere_by name x xs i true t ih e k is = none-some i (sym e)
nowhere_by name x xs i false t ih e zero is = other_name x name t (same_Some x name is)
nowhere_by name x xs i false t ih e (suc k) is = ih e k is

-- a name that is not found stands nowhere
nowhere : (name : List ℕ) (names : List (List ℕ)) (i : ℕ) → from name i names ≡ None → StandsNowhere name names
nowhere name [] i e k is = none-some name is
nowhere name (x ∷ xs) i e k is = nowhere_by name x xs i (bytes_eq x name) refl (nowhere name xs (i + 1)) e k is

-- where standing nowhere behind a row means not found there, so it does from the row on
none_by : (name x : List ℕ) (xs : List (List ℕ)) (i : ℕ) (b : Bool) → bytes_eq x name ≡ b → (StandsNowhere name xs → from name (i + 1) xs ≡ None)
    → StandsNowhere name (x ∷ xs) → cond b (Some i) (from name (i + 1) xs) ≡ None
none_by name x xs i true t ih h = absurd (h zero (ap Some ((bytes_eq-Decides x name).0 t)))
none_by name x xs i false t ih h = ih (λ k is. h (suc k) is)

-- a name that stands nowhere is not found
none_at : (name : List ℕ) (names : List (List ℕ)) (i : ℕ) → StandsNowhere name names → from name i names ≡ None
none_at name [] i h = refl
none_at name (x ∷ xs) i h = none_by name x xs i (bytes_eq x name) refl (none_at name xs (i + 1)) h

-- the place that a search from the start finds is where the name stands first
first_found : (name : List ℕ) (names : List (List ℕ)) (at : ℕ) → from name 0 names ≡ Some at → StandsFirst name names at
first_found name names at e =
    let f = found_at name names 0 at e in
    let same : 0 + f.0 ≡ f.0 = omega arith in
    subst (StandsFirst name names) (sym (f.1 ∙ same)) f.2

-- and where a name stands first is what such a search finds
first_stands : (name : List ℕ) (names : List (List ℕ)) (at : ℕ) → StandsFirst name names at → from name 0 names ≡ Some at
first_stands name names at h =
    let same : 0 + at ≡ at = omega arith in
    stands_at name names 0 at h ∙ ap Some same

-- the row that counts is the first of its name, and none exactly where no row has it
pub first_row : FirstRowCounts
first_row = record {
  found = λ name names at. (
    (λ e. ((first_found name names at e).there, (first_found name names at e).not_before)),
    (λ h. first_stands name names at (record { there = h.0; not_before = h.1 })),
  );
  not_found = λ name names. (nowhere name names 0, none_at name names 0);
}
