-- Items by schemas, one after the other.
use Rattle.std.proofs.Common.{◌≡◌, ◌↔◌, ◌<◌, ◌≤◌, ◌+◌, ◌-◌, ◌++◌, ◌∷◌, ◌∙◌, ℕ, zero, suc, List, [], drop, get_or, length, map, Bool, true, false, refl, subst, sym, arith, IsTrue}
use Rattle.std.proofs.lemmas.Bool.{false≢true}
use Rattle.std.specs.List.{AllByRecursion, flat_map}
use Rattle.serde_json.specs.Data.{Data, depth}
use Rattle.serde_json.specs.View.{view}
use Rattle.serde_json.specs.declared.value.Value.{Value}
use Rattle.strkw_report.specs.declared.error.Site.{Site}
use Rattle.neldrafi_schema.specs.declared.node.Branch.{Branch as CompiledBranch}
use Rattle.neldrafi_schema.specs.Meaning.{Below, EachReports}
use Rattle.neldrafi_schema.specs.Paths.{place as at_place}
use Rattle.neldrafi_schema.specs.Rules.{Target, items_in, on_items, placed_from, placed_items, target}
use Rattle.neldrafi_schema.specs.Schemas.{Branch}
use Rattle.neldrafi_schema.specs.machine.Compiled.{branch_of, branches_of}
use Rattle.neldrafi_schema.proofs.Items.{item_kept, item_passed}
use Rattle.neldrafi_schema.proofs.Lists.{drop_one}
use Rattle.neldrafi_schema.proofs.Visited.{target_first, target_passed}
use Rattle.neldrafi_schema.proofs.Within.{items_in_less}

module _ (below : Below) (site : Site) (word : List ℕ) where
  abbrev None : List Target → Type 0
  None ts = EachReports below site word ts []

  others : (t : Target) (ts : List Target) → None (t ∷ ts) → None ts
  others t ts p = (target_passed below site word t ts (target_first below site word t ts p)).0 p

  pub both : (ts us : List Target) → None ts → None us → None (ts ++ us)
  both [] us p q = q
  both (t ∷ ts) us p q = ([], [], target_first below site word t ts p, both ts us (others t ts p) q, refl)

  pub first : (ts us : List Target) → None (ts ++ us) → None ts
  first [] us p = refl
  first (t ∷ ts) us p = ([], [], target_first below site word t (ts ++ us) p, first ts us (others t (ts ++ us) p), refl)

  pub behind : (ts us : List Target) → None (ts ++ us) → None us
  behind [] us p = p
  behind (t ∷ ts) us p = behind ts us (others t (ts ++ us) p)

  -- ---- schema by schema

  module _ (ds : List (ℕ × Data)) (items : List CompiledBranch) where
    abbrev pub AllBranches : List CompiledBranch → Type 0
    AllBranches left = None (flat_map (on_items ds) (branches_of items)) ↔ None (flat_map (on_items ds) (branches_of left))

    module _ (i : ℕ) (b : CompiledBranch) (inside : i < length items) (at : b ≡ get_or items i b) (r : Bool) (says : IsTrue r ↔ None (on_items ds (branch_of b))) where
      abbrev rest : List Target
      rest = flat_map (on_items ds) (branches_of (drop (i + 1) items))

      here : AllBranches (drop i items) → None (flat_map (on_items ds) (branches_of items)) ↔ None (on_items ds (branch_of b) ++ rest)
      here before = subst AllBranches (drop_one items i b inside at) before

      pub branch_passes : r ≡ true → AllBranches (drop i items) → AllBranches (drop (i + 1) items)
      branch_passes e before = let all = here before in
          (λ x. behind (on_items ds (branch_of b)) rest (all.0 x), λ y. all.1 (both (on_items ds (branch_of b)) rest (says.0 e) y))

      pub branch_stops : r ≡ false → AllBranches (drop i items) → None (flat_map (on_items ds) (branches_of items)) → ⊥
      branch_stops e before x = false≢true (sym e ∙ says.1 (first (on_items ds (branch_of b)) rest ((here before).0 x)))

  -- ---- item by item

  module _ (d : Data) (b : Branch) (vs : List Value) (from : ℕ) where
    abbrev pub left_at : ℕ → List Target
    left_at place = on_items (drop (from - place) (placed_from place (map view (drop place vs)))) b

    abbrev pub AllItems : ℕ → Type 0
    AllItems place = None (on_items (drop from (placed_items d)) b) ↔ None (left_at place)

    pub all_items : items_in d ≡ map view vs → AllItems 0
    all_items e = let all : from - 0 ≡ from = omega arith in rw (e, all) (λ x. x, λ x. x)

    module _ (place : ℕ) (v : Value) (inside : place < length vs) (is : v ≡ get_or vs place v) where
      pub item_skipped : place < from → AllItems place → AllItems (place + 1)
      item_skipped h before = subst (λ ts. None (on_items (drop from (placed_items d)) b) ↔ None ts) (item_passed b vs from place v inside is h) before

      module _ (h : from ≤ place) (r : Bool) (says : (at : Site) → IsTrue r ↔ below b.schema (view v) at []) where
        abbrev it : Target
        it = target b (view v) (at_place place ∷ [])

        with_item : AllItems place → None (on_items (drop from (placed_items d)) b) ↔ None (it ∷ left_at (place + 1))
        with_item before = subst (λ ts. None (on_items (drop from (placed_items d)) b) ↔ None ts) (item_kept b vs from place v inside is h) before

        pub item_passes : r ≡ true → AllItems place → AllItems (place + 1)
        item_passes e before =
            let all = with_item before in
            let passed = target_passed below site word it (left_at (place + 1)) ((says _).0 e) in
            (λ x. passed.0 (all.0 x), λ y. all.1 (passed.1 y))

        pub item_stops : r ≡ false → AllItems place → None (on_items (drop from (placed_items d)) b) → ⊥
        item_stops e before x = false≢true (sym e ∙ (says _).1 (target_first below site word it (left_at (place + 1)) ((with_item before).0 x)))

-- no items are left
pub no_items : (n : ℕ) → drop {A = ℕ × Data} n [] ≡ []
no_items zero = refl
no_items (suc n) = refl

pub none_from : (b : Branch) (vs : List Value) (from place : ℕ) → drop place vs ≡ [] → on_items (drop (from - place) (placed_from place (map view (drop place vs)))) b ≡ []
none_from b vs from place e = rw (e, no_items (from - place)) refl

-- an item is less deep
seconds : (P : Data → Type 0) (n : ℕ) (ds : List Data) → AllByRecursion (λ (i : ℕ × Data). P i.1) (placed_from n ds) → AllByRecursion P ds
seconds P n [] all = tt
seconds P n (d ∷ ds) all = (all.0, seconds P (suc n) ds all.1)

value_at : (P : Data → Type 0) (vs : List Value) (i : ℕ) (v : Value) → AllByRecursion P (map view vs) → i < length vs → v ≡ get_or vs i v → P (view v)
value_at P [] i v all h e = absurd (omega arith)
value_at P (w ∷ vs) zero v all h e = subst (λ x. P (view x)) (sym e) all.0
value_at P (w ∷ vs) (suc i) v all h e = value_at P vs i v all.1 (omega arith) e

pub item_depth : (d : Data) (vs : List Value) (i : ℕ) (v : Value) → items_in d ≡ map view vs → i < length vs → v ≡ get_or vs i v → depth (view v) < depth d
item_depth d vs i v e = value_at (λ x. depth x < depth d) vs i v
    (subst (AllByRecursion (λ x. depth x < depth d)) e (seconds (λ x. depth x < depth d) 0 (items_in d) (items_in_less d)))
