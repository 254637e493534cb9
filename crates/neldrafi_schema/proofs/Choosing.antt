-- Members one after the other, of which some are chosen.
use Rattle.std.proofs.Common.{◌≡◌, ◌↔◌, ◌∙◌, ℕ, zero, suc, ◌<◌, List, [], ◌∷◌, length, drop, map, Bool, true, false, cond, ap, refl, subst, sym, arith, IsTrue, Some}
use Rattle.std.proofs.lemmas.Bool.{false≢true}
use Rattle.std.proofs.lemmas.Bool.Decides.{nat_tests}
use Rattle.std.proofs.lemmas.List.{length-map}
use Rattle.std.specs.Prelude.{nat_le}
use Rattle.std.specs.List.{AllByRecursion, filter}
use Rattle.serde_json.specs.Data.{Data, depth}
use Rattle.serde_json.specs.Find.{as_array}
use Rattle.serde_json.specs.View.{items_view, view}
use Rattle.serde_json.specs.declared.value.Value.{Value}
use Rattle.strkw_report.specs.declared.error.Site.{Site}
use Rattle.neldrafi_schema.specs.Meaning.{Below, EachReports}
use Rattle.neldrafi_schema.specs.Paths.{key}
use Rattle.neldrafi_schema.specs.Rules.{Target, on_members, placed_from, placed_items, target}
use Rattle.neldrafi_schema.specs.Schemas.{Branch}
use Rattle.neldrafi_schema.proofs.Items.{array_items}
use Rattle.neldrafi_schema.proofs.Leaving.{AllLeft, passes, stops}

module _ (below : Below) (site : Site) (word : List ℕ) (all : List Target) (b : Branch) (p : List ℕ × Data → Bool) where
  abbrev pub AllChosen : List (List ℕ × Data) → Type 0
  AllChosen left = AllLeft below site word all (on_members (filter p left) b)

  module _ (m : List ℕ × Data) (rest it : List (List ℕ × Data)) (step : it ≡ m ∷ rest) (kept : Bool) (is : kept ≡ p m) (before : AllChosen it) where
    chosen : (c : Bool) → kept ≡ c → AllLeft below site word all (on_members (cond c (m ∷ filter p rest) (filter p rest)) b)
    chosen c e = subst (λ x. AllLeft below site word all (on_members (cond x (m ∷ filter p rest) (filter p rest)) b)) (sym is ∙ e) (subst AllChosen step before)

    pub member_skipped : kept ≡ false → AllChosen rest
    member_skipped e = chosen false e

    module _ (k : kept ≡ true) (r : Bool) (says : (at : Site) → IsTrue r ↔ below b.schema m.1 at []) where
      pub member_passes : r ≡ true → AllChosen rest
      member_passes e = passes below site word all (target b m.1 (key m.0 ∷ [])) (on_members (filter p rest) b) r (says _) (chosen true k) e

      pub member_stops : r ≡ false → EachReports below site word all [] → ⊥
      member_stops e = stops below site word all (target b m.1 (key m.0 ∷ [])) (on_members (filter p rest) b) r (says _) (chosen true k) e

-- the first of some that are less deep, and the others
abbrev pub AreLess : Data → List (List ℕ × Data) → Type 0
AreLess d ms = AllByRecursion (λ m. depth m.1 < depth d) ms

pub first_less : (d : Data) (m : List ℕ × Data) (rest it : List (List ℕ × Data)) → it ≡ m ∷ rest → AreLess d it → (depth m.1 < depth d) × AreLess d rest
first_less d m rest it step less = subst (AreLess d) step less

-- ---- what is kept of a list, of which nothing was kept so far

module _ {A : Type 0} (p : A → Bool) (x : A) (rest it all : List A) (kept : Bool) (before : all ≡ filter p it) (step : it ≡ x ∷ rest) (is : kept ≡ p x) where
  kept_or_not : (c : Bool) → kept ≡ c → all ≡ cond c (x ∷ filter p rest) (filter p rest)
  kept_or_not c e = before ∙ ap (filter p) step ∙ ap (λ y. cond y (x ∷ filter p rest) (filter p rest)) (sym is ∙ e)

  pub none_kept_yet : kept ≡ false → all ≡ filter p rest
  none_kept_yet e = kept_or_not false e

  pub one_is_kept : kept ≡ true → all ≡ [] → ⊥
  one_is_kept e none = not_both (sym none ∙ kept_or_not true e) where
    not_both : [] ≡ x ∷ filter p rest → ⊥
    not_both f = cc

pub none_is_kept : {A : Type 0} (p : A → Bool) (it all : List A) → all ≡ filter p it → it ≡ [] → all ≡ []
none_is_kept p it all before none = before ∙ ap (filter p) none

-- ---- no items from a place on

zero_within : (n : ℕ) → nat_le 0 n ≡ true
zero_within n = grind (arith, nat_tests)

none_within : (n : ℕ) → nat_le (suc n) 0 ≡ false
none_within n = grind (arith, nat_tests)

both_less : (m n : ℕ) → nat_le (suc m) (suc n) ≡ nat_le m n
both_less m n = grind (arith, nat_tests)

all_dropped : (from n : ℕ) (ds : List Data) → IsTrue (nat_le (length ds) from) ↔ (drop from (placed_from n ds) ≡ [])
all_dropped zero n [] = (λ t. refl, λ r. zero_within 0)
all_dropped zero n (d ∷ ds) = (λ t. absurd (false≢true (sym (none_within (length ds)) ∙ t)), λ r. cc)
all_dropped (suc from) n [] = (λ t. refl, λ r. zero_within (suc from))
all_dropped (suc from) n (d ∷ ds) =
    let others = all_dropped from (suc n) ds in
    let same = both_less (length ds) from in
    (λ t. others.0 (sym same ∙ t), λ r. same ∙ others.1 r)

pub no_items_from : (d : Data) (vs : List Value) (from n : ℕ) → as_array d ≡ Some (items_view vs) → n ≡ length vs
    → IsTrue (nat_le n from) ↔ (drop from (placed_items d) ≡ [])
no_items_from d vs from n found e =
    let items = array_items d vs found in
    let many : n ≡ length (map view vs) = e ∙ sym (length-map vs view) in
    rw (items, many) (all_dropped from 0 (map view vs))
