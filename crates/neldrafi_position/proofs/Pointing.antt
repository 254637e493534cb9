-- The tokens of a pointer, and where they lead.
use Rattle.std.proofs.Common.{◌≡◌, ◌∙◌, ◌==◌, ℕ, ◌-◌, ◌≤◌, List, [], ◌∷◌, Bor, get_or, length, map, take, drop, refl, sym, subst, ap, arith, None}
use Rattle.std.proofs.lemmas.List.{length-drop, take_all}
use Rattle.std.proofs.lemmas.Str.{IsCharBoundary-from_drop}
use Rattle.std.specs.List.{slice_split}
use Rattle.std.specs.Str.{IsCharBoundary, IsUtf8}
use Rattle.neldrafi_position.specs.Places.{behind_first, value_along, value_at}
use Rattle.neldrafi_position.specs.machine.Walks.{EndOf}

abbrev pub texts : List (Bor (List ℕ)) → List (List ℕ)
texts ts = map (λ t. t.now) ts

-- ---- the ends of a text

pub counted_back : (text rest : List ℕ) → EndOf text rest → drop (length text - length rest) text ≡ rest
counted_back text rest e =
    let long : length rest ≡ length text - e.passed = ap length e.rest_is ∙ length-drop e.passed text in
    let same : length text - length rest ≡ e.passed = let w = e.within in omega arith in
    ap (λ n. drop n text) same ∙ sym e.rest_is

pub cut_back : (text rest : List ℕ) → EndOf text rest → IsCharBoundary text (length text - length rest)
cut_back text rest e =
    IsCharBoundary-from_drop text (length text - length rest) (omega arith) (subst IsUtf8 (sym (counted_back text rest e)) e.utf8)

-- ---- the tokens

first_and_others : {A : Type 0} (xs : List A) (none : A) → 1 ≤ length xs → xs ≡ get_or xs 0 none ∷ take (length xs - 1) (drop 1 xs)
first_and_others [] none h = absurd (omega arith)
first_and_others (x ∷ xs) none h = ap (λ ys. x ∷ ys) (sym (take_all (length (x ∷ xs) - 1) xs (omega arith)))

nothing_in : (xs : List ℕ) → length xs ≡ 0 → xs ≡ []
nothing_in [] e = refl
nothing_in (x ∷ xs) e = absurd (omega arith)

module _ (text pointer : List ℕ) (tokens : List (Bor (List ℕ))) (none : Bor (List ℕ)) (cut : texts tokens ≡ slice_split (λ b. b == 47) pointer) (some : 1 ≤ length tokens) where
  abbrev others : List (Bor (List ℕ))
  others = take (length tokens - 1) (drop 1 tokens)

  tokens_are : slice_split (λ b. b == 47) pointer ≡ (get_or tokens 0 none).now ∷ texts others
  tokens_are = sym cut ∙ ap texts (first_and_others tokens none some)

  pub pointer_read : length (get_or tokens 0 none).now ≡ 0 → value_along (texts others) text ≡ value_at pointer text
  pointer_read empty = sym (ap (behind_first text) (tokens_are ∙ ap (λ t. t ∷ texts others) (nothing_in (get_or tokens 0 none).now empty)))

  pub pointer_none : (length (get_or tokens 0 none).now ≡ 0 → ⊥) → None ≡ value_at pointer text
  pointer_none more = by (get_or tokens 0 none).now tokens_are more where
    by : (first : List ℕ) → slice_split (λ b. b == 47) pointer ≡ first ∷ texts others → (length first ≡ 0 → ⊥) → None ≡ value_at pointer text
    by [] e more = absurd (more refl)
    by (c ∷ cs) e more = sym (ap (behind_first text) e)
