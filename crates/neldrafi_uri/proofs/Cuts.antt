-- Texts that are cut at a character, and those that have it.
use Rattle.std.proofs.Common.{◌≡◌, ◌≢◌, ◌∙◌, ◌==◌, ℕ, ◌<◌, ◌≤◌, List, ◌∷◌, Bool, true, false, Option, Some, None, get_or, length, refl, sym, ap, arith}
use Rattle.std.proofs.lemmas.Bool.Decides.{nat_tests}
use Rattle.std.proofs.lemmas.List.Sums.{fails_before_first, passes_at_first, position_or_len_is}
use Rattle.std.proofs.lemmas.Str.Pattern.{contains_char, find_char}
use Rattle.std.specs.Bool.{MatchBool}
use Rattle.std.specs.List.{position_or_len}
use Rattle.std.specs.Option.{MatchOption, unwrap_or}
use Rattle.std.specs.Str.{IsCharBoundary}
use Rattle.std.specs.Str.Pattern.{FindsChar}
use Rattle.neldrafi_uri.specs.Components.{authority_of, before, behind_authority, from, has}

same_tests : (a b : Bool) → (a ≡ true → b ≡ true) → (b ≡ true → a ≡ true) → a ≡ b
same_tests true b to back = sym (to refl)
same_tests false true to back = back refl
same_tests false false to back = refl

differs : (c d : ℕ) → (c == d) ≡ false → c ≢ d
differs c d e = grind (arith, nat_tests)

equals : (c d : ℕ) → (c == d) ≡ true → c ≡ d
equals c d e = grind (arith, nat_tests)

tells_equal : (c d : ℕ) → c ≡ d → (c == d) ≡ true
tells_equal c d e = grind (arith, nat_tests)

tells_other : (c d : ℕ) → c ≢ d → (c == d) ≡ false
tells_other c d e = grind (arith, nat_tests)

module _ (c : ℕ) (text : List ℕ) (low : c < 128) where
  abbrev is_c : ℕ → Bool
  is_c b = b == c

  abbrev place : ℕ
  place = position_or_len is_c text

  inside : has c text ≡ true → place < length text
  inside e = grind (arith, nat_tests)

  outside : has c text ≡ false → length text ≤ place
  outside e = grind (arith, nat_tests)

  has_at : (k : ℕ) → k < length text → get_or text k 0 ≡ c → has c text ≡ true
  has_at k h e = by (has c text) refl where
    by : (b : Bool) → has c text ≡ b → has c text ≡ true
    by true f = f
    by false f = let o = outside f in absurd (differs (get_or text k 0) c (fails_before_first is_c text k 0 (omega arith)) e)

  pub contains_is : (r : Bool) → MatchBool r ((i : ℕ) × (j : ℕ) × FindsChar c text (Some (i, j)) × (i ≤ j) × (j ≤ length text)) (FindsChar c text None) → r ≡ has c text
  contains_is r h =
      let both = contains_char c text r h low in
      same_tests r (has c text)
      (λ e. let (k, h, at) = both.0 e in has_at k h at)
      (λ e. let i = inside e in both.1 place i (equals (get_or text place 0) c (passes_at_first is_c text 0 i)))

  pub find_is : (r : Option ℕ) → MatchOption r (FindsChar c text None) (λ i. (j : ℕ) × FindsChar c text (Some (i, j)) × (i ≤ j) × IsCharBoundary text i × IsCharBoundary text j)
      → unwrap_or r (length text) ≡ place
  find_is r h = by r (find_char c text r h low) where
    by : (r : Option ℕ) → MatchOption r ((i : ℕ) → i < length text → get_or text i 0 ≢ c) (λ k. (k < length text) × (get_or text k 0 ≡ c) × ((i : ℕ) → i < k → get_or text i 0 ≢ c))
        → unwrap_or r (length text) ≡ place
    by None none = sym (position_or_len_is is_c text (length text) 0 (omega arith) (λ k h. tells_other (get_or text k 0) c (none k h)) (λ h. absurd (omega arith)))
    by (Some k) (h, at, none) = sym (position_or_len_is is_c text k 0 (omega arith) (λ j l. tells_other (get_or text j 0) c (none j l)) (λ _. tells_equal (get_or text k 0) c at))

pub authority_read : (text rest front : List ℕ) → text ≡ 47 ∷ 47 ∷ rest → front ≡ before 47 rest → Some front ≡ authority_of text
authority_read text rest front e f = ap Some f ∙ sym (ap authority_of e)

pub path_read : (text rest back : List ℕ) → text ≡ 47 ∷ 47 ∷ rest → back ≡ from 47 rest → back ≡ behind_authority text
path_read text rest back e f = f ∙ sym (ap behind_authority e)
