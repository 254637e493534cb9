-- Items and members, as lists.
use Rattle.std.proofs.Common.{◌≡◌, ℕ, zero, suc, ◌<◌, get_or, Some, arith, List, [], ◌∷◌, map, length, refl, ap, ◌∙◌, sym, String, ◌+◌, ◌-◌, ◌≤◌, drop, add-one, None, Bool}
use Rattle.std.specs.declared.alloc.Global.{Global}
use Rattle.std.proofs.lemmas.List.{length-map}
use Rattle.serde_json.specs.Data.{Data, Members, null, boolean, number, string, array, object}
use Rattle.serde_json.specs.Find.{get_item, as_array, as_object}
use Rattle.serde_json.specs.View.{items_of, items_view, members_of, members_view, view}
use Rattle.serde_json.specs.declared.value.Value.{Value}
use Rattle.strkw_keywords.specs.Errors.{Assertion}
use Rattle.neldrafi_schema.specs.Paths.{place as at_place}
use Rattle.neldrafi_schema.specs.Rules.{Child, Target, item_list, items_in, member_list, members_in, on_items, on_matched, placed_from, placed_items, target, valid_of}
use Rattle.neldrafi_schema.specs.Schemas.{Branch}
use Rattle.neldrafi_schema.proofs.Lists.{drop_one}

pub item_list_of : (ds : List Data) → item_list (items_of ds) ≡ ds
item_list_of [] = refl
item_list_of (d ∷ ds) = ap (λ l. d ∷ l) (item_list_of ds)

pub item_list_view : (vs : List Value) → item_list (items_view vs) ≡ map view vs
item_list_view vs = item_list_of (map view vs)

pub item_count : (vs : List Value) → length (item_list (items_view vs)) ≡ length vs
item_count vs = ap length (item_list_view vs) ∙ length-map vs view

member_count_of : (ms : List (String Global × Data)) → length (member_list (members_of ms)) ≡ length ms
member_count_of [] = refl
member_count_of (m ∷ ms) = ap suc (member_count_of ms)

pub member_count : (ms : List (String Global × Value)) → length (member_list (members_view ms)) ≡ length ms
member_count ms = member_count_of (map (λ m. (m.0, view m.1)) ms) ∙ length-map ms (λ m. (m.0, view m.1))

pub item_at : (vs : List Value) (i : ℕ) (v : Value) → i < length vs → v ≡ get_or vs i v → get_item i (items_view vs) ≡ Some (view v)
item_at [] i v h e = absurd (omega arith)
item_at (w ∷ vs) zero v h e = ap (λ x. Some (view x)) (sym e)
item_at (w ∷ vs) (suc i) v h e = item_at vs i v (omega arith) e

-- those of a value, as the code finds them
pub array_items : (d : Data) (vs : List Value) → as_array d ≡ Some (items_view vs) → items_in d ≡ map view vs
array_items null vs e = cc
array_items (boolean b) vs e = cc
array_items (number x) vs e = cc
array_items (string s) vs e = cc
array_items (array ds) vs e = let same : ds ≡ items_view vs = cc in ap item_list same ∙ item_list_view vs
array_items (object ms) vs e = cc

pub no_array_items : (d : Data) → as_array d ≡ None → items_in d ≡ []
no_array_items null e = refl
no_array_items (boolean b) e = refl
no_array_items (number x) e = refl
no_array_items (string s) e = refl
no_array_items (array ds) e = cc
no_array_items (object ms) e = refl

pub object_members : (d : Data) (ms : Members) → as_object d ≡ Some ms → members_in d ≡ member_list ms
object_members null ms e = cc
object_members (boolean b) ms e = cc
object_members (number x) ms e = cc
object_members (string s) ms e = cc
object_members (array ds) ms e = cc
object_members (object others) ms e = let same : others ≡ ms = cc in ap member_list same

pub no_object_members : (d : Data) → as_object d ≡ None → members_in d ≡ []
no_object_members null e = refl
no_object_members (boolean b) e = refl
no_object_members (number x) e = refl
no_object_members (string s) e = refl
no_object_members (array ds) e = refl
no_object_members (object ms) e = cc

-- of items that are left, the targets of those from a place on
module _ (b : Branch) (vs : List Value) (from place : ℕ) where
  pub item_kept : (v : Value) → place < length vs → v ≡ get_or vs place v → from ≤ place
      → on_items (drop (from - place) (placed_from place (map view (drop place vs)))) b
      ≡ target b (view v) (at_place place ∷ []) ∷ on_items (drop (from - (place + 1)) (placed_from (place + 1) (map view (drop (place + 1) vs)))) b
  item_kept v inside is h =
      let none : from - place ≡ 0 = omega arith in
      let no_more : from - (place + 1) ≡ 0 = omega arith in
      rw (none, no_more, drop_one vs place v inside is, add-one) refl

  pub item_passed : (v : Value) → place < length vs → v ≡ get_or vs place v → place < from
      → on_items (drop (from - place) (placed_from place (map view (drop place vs)))) b
      ≡ on_items (drop (from - (place + 1)) (placed_from (place + 1) (map view (drop (place + 1) vs)))) b
  item_passed v inside is h =
      let one : from - place ≡ suc (from - (place + 1)) = omega arith in
      rw (one, drop_one vs place v inside is, add-one) refl

-- an item as a child, and those behind it
abbrev pub as_child : ℕ × Data → Child
as_child i = (at_place i.0, i.1)

pub one_child : (vs : List Value) (i : ℕ) (v : Value) → i < length vs → v ≡ get_or vs i v
    → map as_child (placed_from i (map view (drop i vs))) ≡ as_child (i, view v) ∷ map as_child (placed_from (i + 1) (map view (drop (i + 1) vs)))
one_child vs i v h is = rw (drop_one vs i v h is, add-one) refl

-- no target or no verdict is left
pub no_targets : {X : Type 0} (f : X → Target) (xs : List X) (vs : List Bool) → length xs ≡ 0 → valid_of (map f xs) vs ≡ []
no_targets f [] vs e = refl
no_targets f (x ∷ xs) vs e = absurd (omega arith)

pub no_verdicts : {X : Type 0} (f : X → Target) (xs : List X) (vs : List Bool) → length vs ≡ 0 → valid_of (map f xs) vs ≡ []
no_verdicts f [] [] e = refl
no_verdicts f (x ∷ xs) [] e = refl
no_verdicts f xs (v ∷ vs) e = absurd (omega arith)

-- no pattern or no schema is left
pub no_patterns : {V X : Type 0} (d : Data) (f : V → List Assertion) (g : X → Branch) (vs : List V) (xs : List X) → length vs ≡ 0 → on_matched d (map f vs) (map g xs) ≡ []
no_patterns d f g [] xs e = refl
no_patterns d f g (v ∷ vs) xs e = absurd (omega arith)

pub no_branches : {V X : Type 0} (d : Data) (f : V → List Assertion) (g : X → Branch) (vs : List V) (xs : List X) → length xs ≡ 0 → on_matched d (map f vs) (map g xs) ≡ []
no_branches d f g [] xs e = refl
no_branches d f g (v ∷ vs) [] e = refl
no_branches d f g (v ∷ vs) (x ∷ xs) e = absurd (omega arith)

-- of items that are left, those from a place on
module _ (vs : List Value) (from place : ℕ) where
  pub left_kept : (v : Value) → place < length vs → v ≡ get_or vs place v → from ≤ place
      → drop (from - place) (map view (drop place vs)) ≡ view v ∷ drop (from - (place + 1)) (map view (drop (place + 1) vs))
  left_kept v inside is h =
      let none : from - place ≡ 0 = omega arith in
      let no_more : from - (place + 1) ≡ 0 = omega arith in
      rw (none, no_more, drop_one vs place v inside is) refl

  pub left_passed : (v : Value) → place < length vs → v ≡ get_or vs place v → place < from
      → drop (from - place) (map view (drop place vs)) ≡ drop (from - (place + 1)) (map view (drop (place + 1) vs))
  left_passed v inside is h =
      let one : from - place ≡ suc (from - (place + 1)) = omega arith in
      rw (one, drop_one vs place v inside is) refl

seconds_from : (n m : ℕ) (ds : List Data) → map (λ (i : ℕ × Data). i.1) (drop n (placed_from m ds)) ≡ drop n ds
seconds_from zero m [] = refl
seconds_from zero m (d ∷ ds) = ap (λ l. d ∷ l) (seconds_from zero (suc m) ds)
seconds_from (suc n) m [] = refl
seconds_from (suc n) m (d ∷ ds) = seconds_from n (suc m) ds

pub placed_left : (d : Data) (vs : List Value) (from : ℕ) → as_array d ≡ Some (items_view vs) → drop from (map view vs) ≡ map (λ i. i.1) (drop from (placed_items d))
placed_left d vs from e = ap (drop from) (sym (array_items d vs e)) ∙ sym (seconds_from from 0 (items_in d))
