-- Targets one after the other, up to the first that has errors.
use Rattle.std.proofs.Common.{◌≡◌, ◌↔◌, ◌∙◌, ℕ, zero, suc, ◌+◌, ◌<◌, List, [], ◌∷◌, ◌++◌, length, get_or, drop, map, add-one, cond, Bool, true, false, refl, subst, sym, arith, IsTrue, Option, Some, None}
use Rattle.std.proofs.lemmas.Bool.{false≢true}
use Rattle.std.specs.Prelude.{is_some, not, ◌||◌}
use Rattle.std.specs.List.{filter, list_all}
use Rattle.serde_json.specs.Data.{Data, Items}
use Rattle.serde_json.specs.Find.{as_array}
use Rattle.serde_json.specs.View.{view}
use Rattle.serde_json.specs.declared.value.Value.{Value}
use Rattle.strkw_report.specs.declared.error.Site.{Site}
use Rattle.neldrafi_schema.specs.declared.node.Branch.{Branch as CompiledBranch}
use Rattle.neldrafi_schema.specs.Meaning.{AreVerdicts, Below, EachReports, site_of}
use Rattle.neldrafi_schema.specs.Paths.{place as at_place}
use Rattle.neldrafi_schema.specs.Refusals.{schemas_in}
use Rattle.neldrafi_schema.specs.Rules.{Target, count_of, is_between, is_present, items_in, on_items, on_itself, placed_from, placed_items, target}
use Rattle.neldrafi_schema.specs.Schemas.{Branch}
use Rattle.neldrafi_schema.specs.machine.Compiled.{branch_of, branches_of}
use Rattle.neldrafi_schema.proofs.Counts.{Counted, none_counted, counted_less, counted_more, counted_past}
use Rattle.neldrafi_schema.proofs.Each.{behind, both, first}
use Rattle.neldrafi_schema.proofs.Fitting.{and_left, and_right}
use Rattle.neldrafi_schema.proofs.Items.{no_array_items}
use Rattle.neldrafi_schema.proofs.Lists.{drop_one}
use Rattle.neldrafi_schema.proofs.Visited.{target_first, target_passed}
use Rattle.neldrafi_schema.specs.machine.Counted.{AreCounted, AreItemsCounted, is_past}

module _ (below : Below) (site : Site) (word : List ℕ) (all : List Target) where
  -- all of them have no errors just where those that are left have none
  abbrev pub AllLeft : List Target → Type 0
  AllLeft left = EachReports below site word all [] ↔ EachReports below site word left []

  module _ (t : Target) (ts : List Target) (b : Bool) (says : IsTrue b ↔ below t.schema t.value (site_of site word t) []) (before : AllLeft (t ∷ ts)) where
    pub passes : b ≡ true → AllLeft ts
    passes e =
        let passed = target_passed below site word t ts (says.0 e) in
        (λ x. passed.0 (before.0 x), λ y. before.1 (passed.1 y))

    pub stops : b ≡ false → EachReports below site word all [] → ⊥
    stops e x = false≢true (sym e ∙ says.1 (target_first below site word t ts (before.0 x)))

  module _ (ts us : List Target) (b : Bool) (says : IsTrue b ↔ EachReports below site word ts []) (before : AllLeft (ts ++ us)) where
    pub several_pass : b ≡ true → AllLeft us
    several_pass e = (λ x. behind below site word ts us (before.0 x), λ y. before.1 (both below site word ts us (says.0 e) y))

    pub several_stop : b ≡ false → EachReports below site word all [] → ⊥
    several_stop e x = false≢true (sym e ∙ says.1 (first below site word ts us (before.0 x)))

-- ---- schemas of the instance itself

-- where the ways from all of them end, those from each do
pub branch_ends : (end : ℕ → Bool) (bs : List CompiledBranch) (i : ℕ) (b : CompiledBranch) → list_all end (schemas_in (branches_of bs)) ≡ true → i < length bs
    → b ≡ get_or bs i b → end b.schema ≡ true
branch_ends end [] i b e h is = absurd (omega arith)
branch_ends end (c ∷ bs) zero b e h is = rw is (and_left _ _ e)
branch_ends end (c ∷ bs) (suc i) b e h is = branch_ends end bs i b (and_right (end c.schema) _ e) (omega arith) is

module _ (below : Below) (site : Site) (word : List ℕ) (d : Data) (items : List CompiledBranch) (i : ℕ) (b : CompiledBranch) (inside : i < length items) (at : b ≡ get_or items i b)
    (r : Bool) (says : (at : Site) → IsTrue r ↔ below b.schema d at []) where
  abbrev rest : List Target
  rest = on_itself d (branches_of (drop (i + 1) items))

  abbrev it : Target
  it = target (branch_of b) d []

  abbrev Here : (List Target → Type 0) → List CompiledBranch → Type 0
  Here P left = P (on_itself d (branches_of left))

  abbrev pub AllHere : List CompiledBranch → Type 0
  AllHere left = Here (AllLeft below site word (on_itself d (branches_of items))) left

  abbrev pub CountedHere : ℕ → List CompiledBranch → Type 0
  CountedHere count left = Here (Counted below site word (on_itself d (branches_of items)) count) left

  first_here : (P : List Target → Type 0) → Here P (drop i items) → P (it ∷ rest)
  first_here P before = subst (Here P) (drop_one items i b inside at) before

  pub schema_passes : r ≡ true → AllHere (drop i items) → AllHere (drop (i + 1) items)
  schema_passes e before = passes below site word (on_itself d (branches_of items)) it rest r (says _) (first_here (AllLeft below site word (on_itself d (branches_of items))) before) e

  pub schema_stops : r ≡ false → AllHere (drop i items) → EachReports below site word (on_itself d (branches_of items)) [] → ⊥
  schema_stops e before = stops below site word (on_itself d (branches_of items)) it rest r (says _) (first_here (AllLeft below site word (on_itself d (branches_of items))) before) e

  module _ (count : ℕ) (before : CountedHere count (drop i items)) where
    counted_first : Counted below site word (on_itself d (branches_of items)) count (it ∷ rest)
    counted_first = first_here (Counted below site word (on_itself d (branches_of items)) count) before

    pub schema_counted : r ≡ true → CountedHere (count + 1) (drop (i + 1) items)
    schema_counted e = counted_more below site word (on_itself d (branches_of items)) count it rest r (says _) counted_first e

    pub schema_not_counted : r ≡ false → CountedHere count (drop (i + 1) items)
    schema_not_counted e = counted_less below site word (on_itself d (branches_of items)) count it rest r (says _) counted_first e

    pub one_too_many : (least : ℕ) (most : Option ℕ) → r ≡ true → is_past most count ≡ true → AreCounted below site word (on_itself d (branches_of items)) least most → ⊥
    one_too_many least most e past = counted_past below site word (on_itself d (branches_of items)) count it rest r (says _) counted_first least most e past

-- those whose keys the instance has
module _ (below : Below) (site : Site) (word : List ℕ) (d : Data) (items : List CompiledBranch) (i : ℕ) (b : CompiledBranch) (inside : i < length items) (at : b ≡ get_or items i b)
    (here : Bool) (is : here ≡ is_present d (branch_of b)) where
  abbrev pub AllPresent : List CompiledBranch → Type 0
  AllPresent left = AllLeft below site word (on_itself d (filter (is_present d) (branches_of items))) (on_itself d (filter (is_present d) (branches_of left)))

  abbrev others_present : List Branch
  others_present = filter (is_present d) (branches_of (drop (i + 1) items))

  module _ (before : AllPresent (drop i items)) where
    chosen : (c : Bool) → here ≡ c → AllLeft below site word (on_itself d (filter (is_present d) (branches_of items))) (on_itself d (cond c (branch_of b ∷ others_present) others_present))
    chosen c e = subst (λ x. AllLeft below site word (on_itself d (filter (is_present d) (branches_of items))) (on_itself d (cond x (branch_of b ∷ others_present) others_present))) (sym is ∙ e)
        (subst AllPresent (drop_one items i b inside at) before)

    pub present_skipped : here ≡ false → AllPresent (drop (i + 1) items)
    present_skipped e = chosen false e

    module _ (k : here ≡ true) (r : Bool) (says : (at : Site) → IsTrue r ↔ below b.schema d at []) where
      pub present_passes : r ≡ true → AllPresent (drop (i + 1) items)
      present_passes e = passes below site word (on_itself d (filter (is_present d) (branches_of items))) (target (branch_of b) d []) (on_itself d others_present) r (says _) (chosen true k) e

      pub present_stops : r ≡ false → EachReports below site word (on_itself d (filter (is_present d) (branches_of items))) [] → ⊥
      present_stops e = stops below site word (on_itself d (filter (is_present d) (branches_of items))) (target (branch_of b) d []) (on_itself d others_present) r (says _) (chosen true k) e

-- ---- items

module _ (below : Below) (site : Site) (word : List ℕ) (all : List Target) (b : Branch) (vs : List Value) where
  abbrev pub items_left : ℕ → List Target
  items_left place = on_items (placed_from place (map view (drop place vs))) b

  abbrev pub ItemsCounted : ℕ → ℕ → Type 0
  ItemsCounted count place = Counted below site word all count (items_left place)

  module _ (place : ℕ) (v : Value) (inside : place < length vs) (is : v ≡ get_or vs place v) (r : Bool) (says : (at : Site) → IsTrue r ↔ below b.schema (view v) at [])
      (count : ℕ) (before : ItemsCounted count place) where
    abbrev this : Target
    this = target b (view v) (at_place place ∷ [])

    item_first : items_left place ≡ this ∷ items_left (place + 1)
    item_first = rw (drop_one vs place v inside is, add-one) refl

    with_first : Counted below site word all count (this ∷ items_left (place + 1))
    with_first = subst (Counted below site word all count) item_first before

    pub item_counted : r ≡ true → ItemsCounted (count + 1) (place + 1)
    item_counted e = counted_more below site word all count this (items_left (place + 1)) r (says _) with_first e

    pub item_not_counted : r ≡ false → ItemsCounted count (place + 1)
    item_not_counted e = counted_less below site word all count this (items_left (place + 1)) r (says _) with_first e

    pub item_too_many : (least : ℕ) (most : Option ℕ) → r ≡ true → is_past most count ≡ true → AreCounted below site word all least most → ⊥
    item_too_many least most e past = counted_past below site word all count this (items_left (place + 1)) r (says _) with_first least most e past

  pub no_items_left : (place : ℕ) → drop place vs ≡ [] → items_left place ≡ []
  no_items_left place e = rw e refl

pub items_start : (below : Below) (site : Site) (word : List ℕ) (d : Data) (b : Branch) (vs : List Value) → items_in d ≡ map view vs
    → ItemsCounted below site word (on_items (placed_items d) b) b vs 0 0
items_start below site word d b vs e = rw e (none_counted below site word (on_items (placed_from 0 (map view vs)) b))

-- what is counted of the items of an array
pub as_items : (below : Below) (site : Site) (word : List ℕ) (d : Data) (b : Branch) (ds : Items) (least : ℕ) (most : Option ℕ) (X : Type 0) → as_array d ≡ Some ds
    → X ↔ AreCounted below site word (on_items (placed_items d) b) least most → X ↔ AreItemsCounted below site word d b least most
as_items below site word d b ds least most X found says =
    subst (λ o. X ↔ ((us : List Bool) × AreVerdicts below site word (on_items (placed_items d) b) us × ((not (is_some o) || is_between least most (count_of us)) ≡ true))) (sym found) says

pub no_items_counted : (below : Below) (site : Site) (word : List ℕ) (d : Data) (b : Branch) (least : ℕ) (most : Option ℕ) → as_array d ≡ None
    → AreItemsCounted below site word d b least most
no_items_counted below site word d b least most none = ([], rw (no_array_items d none) refl, rw none refl)
