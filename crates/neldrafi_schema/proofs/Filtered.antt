-- A loop over a list that keeps some elements: what is there, and what the rest gives.
use Rattle.std.proofs.Common.{◌≡◌, ◌∙◌, List, [], ◌∷◌, ◌++◌, Bool, true, false, cond, map, sym, ap, append_assoc, append-nil}
use Rattle.std.specs.List.{filter}

module _ {A B : Type 0} (f : A → B) (p : A → Bool) (x : A) (rest : List A) where
  filter_kept : (b : Bool) → b ≡ p x → b ≡ true → filter p (x ∷ rest) ≡ x ∷ filter p rest
  filter_kept b is e = ap (λ c. cond c (x ∷ filter p rest) (filter p rest)) (sym is ∙ e)

  filter_left : (b : Bool) → b ≡ p x → b ≡ false → filter p (x ∷ rest) ≡ filter p rest
  filter_left b is e = ap (λ c. cond c (x ∷ filter p rest) (filter p rest)) (sym is ∙ e)

  -- an element that is kept, and one that is not
  pub kept_one : (old new : List B) (all : List B) (it : List A) (b : Bool) → it ≡ x ∷ rest → b ≡ p x → b ≡ true → new ≡ old ++ f x ∷ []
      → old ++ map f (filter p it) ≡ all → new ++ map f (filter p rest) ≡ all
  kept_one old new all it b step is e pushed before =
      ap (λ l. l ++ map f (filter p rest)) pushed ∙ append_assoc old (f x ∷ []) (map f (filter p rest))
      ∙ ap (λ l. old ++ map f l) (sym (filter_kept b is e)) ∙ ap (λ l. old ++ map f (filter p l)) (sym step) ∙ before

  pub left_one : (old all : List B) (it : List A) (b : Bool) → it ≡ x ∷ rest → b ≡ p x → b ≡ false
      → old ++ map f (filter p it) ≡ all → old ++ map f (filter p rest) ≡ all
  left_one old all it b step is e before =
      ap (λ l. old ++ map f l) (sym (filter_left b is e)) ∙ ap (λ l. old ++ map f (filter p l)) (sym step) ∙ before

-- nothing is left
pub none_left : {A B : Type 0} (f : A → B) (p : A → Bool) (old all : List B) (it : List A) → it ≡ [] → old ++ map f (filter p it) ≡ all → old ≡ all
none_left f p old all it none before = sym (append-nil old) ∙ ap (λ l. old ++ map f (filter p l)) (sym none) ∙ before
