-- What rules report themselves.
use Rattle.std.proofs.Common.{◌≡◌, ◌↔◌, ◌∙◌, ℕ, zero, suc, ◌<◌, List, [], ◌∷◌, map, refl, sym, ap, arith, Bool, true, false, IsTrue}
use Rattle.std.proofs.lemmas.Bool.{false≢true}
use Rattle.std.proofs.Math.Path.{ap₂}
use Rattle.std.specs.List.{AllZip, list_any}
use Rattle.neldrafi_schema.specs.Errors.{Kind, valid_by_none, valid_by_several}
use Rattle.neldrafi_schema.specs.Rules.{by_count, count_of, none_allowed, unless}

-- a test reports nothing just where it holds
pub unless_holds : (b c : Bool) (kind : Kind) → b ≡ c → IsTrue b ↔ (unless c kind ≡ [])
unless_holds b true kind same = (λ t. refl, λ r. same)
unless_holds b false kind same = (λ t. absurd (false≢true (sym same ∙ t)), λ r. cc)

none_counted : (vs : List Bool) → list_any (λ v. v) vs ≡ false → count_of vs ≡ 0
none_counted [] e = refl
none_counted (true ∷ vs) e = absurd (false≢true (sym e))
none_counted (false ∷ vs) e = none_counted vs e

some_counted : (vs : List Bool) → list_any (λ v. v) vs ≡ true → 0 < count_of vs
some_counted [] e = absurd (false≢true e)
some_counted (true ∷ vs) e = omega arith
some_counted (false ∷ vs) e = some_counted vs e

several : (word : List ℕ) (n : ℕ) → 0 < n → (by_count word n ≡ [] → ⊥) → valid_by_several ∷ [] ≡ by_count word n
several word zero h fails = absurd (omega arith)
several word (suc zero) h fails = absurd (fails refl)
several word (suc (suc n)) h fails = refl

-- where not one is valid, some are several, and otherwise there is none
pub some_are_several : (word : List ℕ) (vs : List Bool) (some : Bool) → some ≡ list_any (λ v. v) vs → some ≡ true → (by_count word (count_of vs) ≡ [] → ⊥)
    → valid_by_several ∷ [] ≡ by_count word (count_of vs)
some_are_several word vs some is e fails = several word (count_of vs) (some_counted vs (sym is ∙ e)) fails

pub none_is_valid : (word : List ℕ) (vs : List Bool) (some : Bool) → some ≡ list_any (λ v. v) vs → some ≡ false → by_count word (count_of vs) ≡ valid_by_none word ∷ []
none_is_valid word vs some is e = ap (by_count word) (none_counted vs (sym is ∙ e))

pub unless_fails : (b : Bool) (kind : Kind) → (unless b kind ≡ [] → ⊥) → kind ∷ [] ≡ unless b kind
unless_fails true kind fails = absurd (fails refl)
unless_fails false kind fails = refl

-- copies that are the same in a view
pub same_views : {A B : Type 0} (R : A → A → Type 0) (f : A → B) (xs ys : List A) → AllZip R xs ys → ((x y : A) → R x y → f y ≡ f x) → map f ys ≡ map f xs
same_views R f [] [] all same = refl
same_views R f [] (y ∷ ys) all same = absurd all
same_views R f (x ∷ xs) [] all same = absurd all
same_views R f (x ∷ xs) (y ∷ ys) all same = ap₂ (λ z zs. z ∷ zs) (same x y all.0) (same_views R f xs ys all.1 same)

-- what there is to report, or not
pub none_to_report : {A : Type 0} (kind : List A → Kind) (xs : List A) → xs ≡ [] → [] ≡ none_allowed kind xs
none_to_report kind xs e = rw e refl

pub some_to_report : {A : Type 0} (kind : List A → Kind) (xs : List A) → (xs ≡ [] → ⊥) → kind xs ∷ [] ≡ none_allowed kind xs
some_to_report kind [] some = absurd (some refl)
some_to_report kind (x ∷ xs) some = refl
