-- Paths without `.` and `..`, segment by segment.
use Rattle.std.proofs.Common.{◌≡◌, ◌≢◌, ◌∙◌, ◌==◌, ℕ, ◌<◌, ◌≤◌, ◌+◌, ◌-◌, List, [], ◌∷◌, ◌++◌, Bool, true, false, Bor, get_or, length, take, drop, refl, sym, ap, arith}
use Rattle.std.proofs.lemmas.Bool.Decides.{nat_tests}
use Rattle.std.proofs.lemmas.List.{at_drop_more, length-drop, length-map, take_all}
use Rattle.std.proofs.lemmas.Slice.Eq.{bytes_eq-Decides}
use Rattle.std.specs.Prelude.{◌||◌, codes}
use Rattle.neldrafi_uri.specs.Resolution.{dots_removed, is_dot, is_dot_dot, is_empty, without_dots}
use Rattle.neldrafi_uri.specs.machine.Texts.{begun, texts}

abbrev pub none : Bor (List ℕ)
none = record { ref_ptr = (0, 0); now = [] }

module _ (segments : List (Bor (List ℕ))) (i : ℕ) (h : i < length segments) where
  abbrev here : List ℕ
  here = (get_or segments i none).now

  abbrev later : List (List ℕ)
  later = texts (drop (i + 1) segments)

  pub dropped : (is_dot here || is_dot_dot here) ≡ true → dots_removed later ≡ dots_removed (texts (drop i segments))
  dropped e = sym (at_drop_more (λ ss. dots_removed (texts ss)) segments i none h ∙ rw e refl)

  pub begins : (is_dot here || is_dot_dot here) ≡ false → begun (texts (drop i segments)) ≡ dots_removed (texts (drop i segments))
  begins e = at_drop_more (λ ss. begun (texts ss)) segments i none h ∙ sym (at_drop_more (λ ss. dots_removed (texts ss)) segments i none h ∙ rw e refl)

differs : (s t : List ℕ) (b : Bool) → (b ≡ true → s ≡ t) → s ≢ t → b ≡ false
differs s t true to other = absurd (other (to refl))
differs s t false to other = refl

pub kept : (first : List ℕ) (before : List (List ℕ)) (s : List ℕ) (others : List (List ℕ)) → s ≢ codes "." → s ≢ codes ".."
    → without_dots first before (s ∷ others) ≡ without_dots first (before ++ s ∷ []) others
kept first before s others dot dot_dot =
    let one : is_dot s ≡ false = differs s (codes ".") (is_dot s) (bytes_eq-Decides s (codes ".")).0 dot in
    let two : is_dot_dot s ≡ false = differs s (codes "..") (is_dot_dot s) (bytes_eq-Decides s (codes "..")).0 dot_dot in
    rw (one, two) refl

is_empty_is : {A : Type 0} (xs : List A) → is_empty xs ≡ (length xs == 0)
is_empty_is [] = refl
is_empty_is (x ∷ xs) = grind (arith, nat_tests)

tells_last : (m n : ℕ) → n < m → (m - (n + 1) == 0) ≡ (n + 1 == m)
tells_last m n h = grind (arith, nat_tests)

pub is_last : (segments : List (Bor (List ℕ))) (i : ℕ) → i < length segments → is_empty (texts (drop (i + 1) segments)) ≡ (i + 1 == length segments)
is_last segments i h = is_empty_is (texts (drop (i + 1) segments)) ∙ simp (length-map, length-drop) (tells_last (length segments) i h)

pub first_and_others : {A : Type 0} (xs : List A) (none : A) → 1 ≤ length xs → xs ≡ get_or xs 0 none ∷ take (length xs - 1) (drop 1 xs)
first_and_others [] none h = absurd (omega arith)
first_and_others (x ∷ xs) none h = ap (λ ys. x ∷ ys) (sym (take_all (length (x ∷ xs) - 1) xs (omega arith)))
