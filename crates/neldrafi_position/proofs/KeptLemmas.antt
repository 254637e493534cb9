-- What is kept of the containers that were passed over.
use Rattle.std.proofs.Common.{◌≡◌, ◌∙◌, ℕ, zero, suc, List, [], ◌∷◌, Bor, Option, Some, None, ap, arith, drop, length, refl, subst, sym}
use Rattle.std.proofs.lemmas.Option.{slice_get-map, slice_get_past, slice_get_read}
use Rattle.std.specs.List.{All}
use Rattle.std.specs.Prelude.{IfSome, option_copied, slice_get}
use Rattle.std.specs.Slice.{IsItemAt}
use Rattle.std.specs.Str.{IsCharBoundary}
use Rattle.neldrafi_position.specs.Parts.{behind_space, elements}
use Rattle.neldrafi_position.specs.machine.Kept.{AreElements, AreStarts}

all_get : {A : Type 0} (P : A → Type 0) (xs : List A) → All P xs → (i : ℕ) → IfSome (slice_get xs i) P
all_get P [] all i = tt
all_get P (x ∷ xs) all zero = all 0 x (omega arith)
all_get P (x ∷ xs) all (suc i) = all_get P xs (λ k d h. all (suc k) d (omega arith)) i

-- what a look-up found is what is kept there
pub kept_at : {X : Type 0} (P : X → Type 0) (found : Option (Bor X)) (x : Bor X) (o : Option X) → option_copied found ≡ o → found ≡ Some x → IfSome o P → P x.now
kept_at P found x o is at kept = subst (λ o. IfSome o P) (sym is ∙ ap option_copied at) kept

pub item_at : {X : Type 0} (xs : List X) (i : ℕ) (r : Option (Bor X)) → IsItemAt xs i r → option_copied r ≡ slice_get xs i
item_at xs i None h = sym (slice_get_past xs i h.3)
item_at xs i (Some x) h = sym (slice_get_read xs (length xs) i x.now refl h.3.0 h.1)

pub element_start : (text : List ℕ) (inside : ℕ) (starts : List ℕ) (index : ℕ) (found : Option ℕ) → AreElements text inside starts → found ≡ slice_get starts index
    → AreStarts text found (slice_get (elements (drop inside text)) index)
element_start text inside starts index found all is = rw is (record {
  cut = all_get (IsCharBoundary text) starts all.cut index;
  same = sym (slice_get-map (λ n. drop n text) starts index) ∙ ap (λ xs. slice_get xs index) all.same ∙ slice_get-map behind_space (elements (drop inside text)) index;
})
