-- The names of the columns of a file.
use Rattle.std.proofs.Common.{◌≡◌, ◌<◌, ◌+◌, ◌++◌, ℕ, zero, suc, List, [], ◌∷◌, length, Bool, true, false, Some, None, refl, sym, ap, subst, ◌∙◌, arith}
use Rattle.std.proofs.Common.{bytes_eq, cond, decimal, true≢false}
use Rattle.std.specs.Prelude.{Option, is_some}
use Rattle.std.specs.Map.{update}
use native.Mathlib.Decide.{dec_lt}
use Rattle.std.proofs.lemmas.Bool.Decides.{not_from_Decides}
use Rattle.std.proofs.lemmas.Slice.Eq.{bytes_eq-Decides}
use Rattle.std.proofs.lemmas.Option.{none-some, same_Some}
use Rattle.csv.specs.Records.{field_at}
use Rattle.neldrafi_table.specs.Headers.{AreDistinct}
use Rattle.neldrafi_table.specs.Headers.{numbers}

-- no field is no number
pub numbers_none : (names : List (List ℕ)) → names ≡ [] → names ≡ numbers 0
unfolding numbers
numbers_none names none = none

-- one number more
pub numbers_next : (n : ℕ) (digits : List ℕ) (old new : List (List ℕ)) → old ≡ numbers n → digits ≡ decimal (n + 1) → new ≡ old ++ digits ∷ []
    → new ≡ numbers (n + 1)
unfolding numbers
numbers_next n digits old new before next more =
    let one : suc n ≡ n + 1 = omega arith in
    subst (λ k. new ≡ numbers k) one (more ∙ ap (λ l. l ++ digits ∷ []) before ∙ ap (λ d. numbers n ++ d ∷ []) (next ∙ ap decimal (sym one)))

-- the place that an option has
pub some_of : (o : Option ℕ) → is_some o ≡ true → (i : ℕ) × (o ≡ Some i)
some_of None is = absurd (true≢false (sym is))
some_of (Some i) is = (i, refl)

-- a place that has a field comes before one that has none
pub field_before : (names : List (List ℕ)) (n i : ℕ) (name : List ℕ) → field_at names n ≡ None → field_at names i ≡ Some name → i < n
unfolding field_at
field_before [] n i name none is = absurd (none-some name is)
field_before (x ∷ xs) zero i name none is = absurd (none-some x (sym none))
field_before (x ∷ xs) (suc n) zero name none is = omega arith
field_before (x ∷ xs) (suc n) (suc i) name none is = let less = field_before xs n i name none is in omega arith

-- and before the count of the fields
pub field_within : (names : List (List ℕ)) (i : ℕ) (name : List ℕ) → field_at names i ≡ Some name → i < length names
unfolding field_at
field_within [] i name is = absurd (none-some name is)
field_within (x ∷ xs) zero name is = omega arith
field_within (x ∷ xs) (suc i) name is = let less = field_within xs i name is in omega arith

-- names that each have one place are distinct
pub distinct : (names : List (List ℕ)) (n : ℕ) (place : List ℕ → Option ℕ) → ((name : List ℕ) (i : ℕ) → field_at names i ≡ Some name → i < n)
    → ((name : List ℕ) (i : ℕ) → i < n → field_at names i ≡ Some name → place name ≡ Some i) → AreDistinct names
distinct names n place within one name (i, j, less, here, there) =
    let same : i ≡ j = same_Some i j (sym (one name i (within name i here) here) ∙ one name j (within name j there) there) in
    absurd (omega arith)

-- each name with a place has it among the first fields, and each of the first fields has its one place
abbrev pub AreKnown : List (List ℕ) → ℕ → (List ℕ → Option ℕ) → Type 0
AreKnown names n place = (name : List ℕ) (i : ℕ) → place name ≡ Some i → (i < n) × (field_at names i ≡ Some name)

-- each of the first fields has the place at which it stands
abbrev pub HavePlaces : List (List ℕ) → ℕ → (List ℕ → Option ℕ) → Type 0
HavePlaces names n place = (name : List ℕ) (i : ℕ) → i < n → field_at names i ≡ Some name → place name ≡ Some i

module _ (names : List (List ℕ)) (n : ℕ) (key : List ℕ) (old new : List ℕ → Option ℕ) (here : field_at names n ≡ Some key)
    (updates : (name : List ℕ) → new name ≡ update bytes_eq old key (Some n) name) where
  -- a name with a place has it among the fields up to the new one, whichever it is
  known_by : (name : List ℕ) (i : ℕ) (b : Bool) → bytes_eq key name ≡ b → AreKnown names n old → cond b (Some n) (old name) ≡ Some i
      → (i < n + 1) × (field_at names i ≡ Some name)
  known_by name i true is known found =
      let same : n ≡ i = same_Some n i found in
      let named : key ≡ name = (bytes_eq-Decides key name).0 is in
      (omega arith, subst (λ k. field_at names k ≡ Some name) same (subst (λ x. field_at names n ≡ Some x) named here))
  known_by name i false is known found = let (less, there) = known name i found in (omega arith, there)

  -- one field more has its place
  pub known_more : AreKnown names n old → AreKnown names (n + 1) new
  known_more known name i found = known_by name i (bytes_eq key name) refl known (sym (updates name) ∙ found)

  -- a field up to the new one has its place, whether or not it has the new name
  places_by : (name : List ℕ) (i : ℕ) (b : Bool) → bytes_eq key name ≡ b → old key ≡ None → HavePlaces names n old → i < n + 1 → field_at names i ≡ Some name
      → cond b (Some n) (old name) ≡ Some i
  places_by name i true is none have less there =
      let named : key ≡ name = (bytes_eq-Decides key name).0 is in
      elim (dec_lt i n) [
        | yes earlier ↦ absurd (none-some i (sym none ∙ have key i earlier (subst (λ x. field_at names i ≡ Some x) (sym named) there)))
        | no later ↦ let same : n ≡ i = omega arith in ap Some same
      ]
  places_by name i false is none have less there =
      elim (dec_lt i n) [
        | yes earlier ↦ have name i earlier there
        | no later ↦
            let same : i ≡ n = omega arith in
            absurd (not_from_Decides (bytes_eq key name) (bytes_eq-Decides key name) is
            (same_Some key name (sym here ∙ subst (λ k. field_at names k ≡ Some name) same there)))
      ]

  -- and each field up to the new one has its one place, where the new name had none
  pub places_more : old key ≡ None → HavePlaces names n old → HavePlaces names (n + 1) new
  places_more none have name i less there = updates name ∙ places_by name i (bytes_eq key name) refl none have less there
