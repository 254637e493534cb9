-- Keys among others: an item whose key is new is like none whose keys are there.
use Rattle.std.proofs.Common.{◌≡◌, ◌∷◌, [], ◌∙◌, refl, sym, ap, ℕ, zero, suc, ◌-◌, ◌+◌, ◌<◌, List, Bool, true, false, true≢false, Ordering, Less, Equal, Greater, Vec, Global, drop, take, length, slice_index_or, arith}
use Rattle.std.proofs.lemmas.List.{drop_more, length-drop}
use Rattle.std.proofs.Math.Seq.{take-length}
use Rattle.std.proofs.lemmas.Map.Text.{is_eq-slice_cmp}
use Rattle.std.proofs.lemmas.Slice.Eq.{bytes_eq-Decides}
use Rattle.std.specs.Prelude.{◌||◌, ⊤, not, ◌&&◌}
use Rattle.std.specs.Ordering.{is_eq, match_ordering, nat_cmp}
use Rattle.std.specs.Cmp.Lexicographic.{slice_cmp}
use Rattle.std.specs.Str.{bytes_eq}
use Rattle.std.specs.List.{list_any}
use Rattle.std.specs.BTreeMap.{is_at}
use Rattle.std.specs.BTreeSet.{insert_key}
use Rattle.serde_json.specs.Data.{Data, Items, no_items, item}
use Rattle.serde_json.specs.View.{items_view, view}
use Rattle.serde_json.specs.declared.value.Value.{Value}
use Rattle.neldrafi_schema.specs.Equality.{are_distinct, has_same, same}
use Rattle.neldrafi_schema.specs.machine.Keys.{key_of}
use Rattle.neldrafi_schema.proofs.SameKeys.{same_keys}

abbrev pub order : Vec ℕ Global → Vec ℕ Global → Ordering
order u v = slice_cmp nat_cmp u.items v.items

abbrev pub has_key : List ℕ → List (Vec ℕ Global) → Bool
has_key k [] = false
has_key k (v ∷ vs) = bytes_eq k v.items || has_key k vs

abbrev pub HasKeys : Items → List (Vec ℕ Global) → Type 0
HasKeys no_items keys = ⊤
HasKeys (item d ds) keys = (has_key (key_of d) keys ≡ true) × HasKeys ds keys

pub contained : (v : Vec ℕ Global) (keys : List (Vec ℕ Global)) → list_any (is_at (order v)) keys ≡ has_key v.items keys
contained v [] = refl
contained v (u ∷ us) = rw (is_eq-slice_cmp v.items u.items, contained v us) refl

true_of_not : (a : Bool) → not a ≡ true → a ≡ false
true_of_not true h = sym h
true_of_not false h = refl

behind : (a b : Bool) → b ≡ true → (a || b) ≡ true
behind true b h = refl
behind false b h = h

still_at : (k : List ℕ) (v u : Vec ℕ Global) (us more : List (Vec ℕ Global)) (o : Ordering) (b : Bool) → bytes_eq k u.items ≡ b
    → (b || has_key k us) ≡ true → (has_key k us ≡ true → has_key k more ≡ true) → has_key k (match_ordering o (v ∷ u ∷ us) (u ∷ us) (u ∷ more)) ≡ true
still_at k v u us more Less b e h f = behind (bytes_eq k v.items) _ (rw (e) h)
still_at k v u us more Equal b e h f = rw (e) h
still_at k v u us more Greater true e h f = rw (e) refl
still_at k v u us more Greater false e h f = rw (e) (f h)

still : (k : List ℕ) (v : Vec ℕ Global) (keys : List (Vec ℕ Global)) → has_key k keys ≡ true → has_key k (insert_key order keys v) ≡ true
still k v [] h = absurd (true≢false (sym h))
still k v (u ∷ us) h = still_at k v u us (insert_key order us v) (order v u) (bytes_eq k u.items) refl h (still k v us)

is_own : (v : Vec ℕ Global) (us : List (Vec ℕ Global)) → has_key v.items (v ∷ us) ≡ true
is_own v us = rw ((bytes_eq-Decides v.items v.items).1 refl) refl

now_at : (v u : Vec ℕ Global) (us more : List (Vec ℕ Global)) (o : Ordering) → order v u ≡ o → has_key v.items more ≡ true
    → has_key v.items (match_ordering o (v ∷ u ∷ us) (u ∷ us) (u ∷ more)) ≡ true
now_at v u us more Less e h = is_own v (u ∷ us)
now_at v u us more Equal e h = rw (sym (is_eq-slice_cmp v.items u.items) ∙ ap is_eq e) refl
now_at v u us more Greater e h = behind (bytes_eq v.items u.items) _ h

now : (v : Vec ℕ Global) (keys : List (Vec ℕ Global)) → has_key v.items (insert_key order keys v) ≡ true
now v [] = is_own v []
now v (u ∷ us) = now_at v u us (insert_key order us v) (order v u) refl (now v us)

all_still : (ds : Items) (v : Vec ℕ Global) (keys : List (Vec ℕ Global)) → HasKeys ds keys → HasKeys ds (insert_key order keys v)
all_still no_items v keys h = tt
all_still (item d ds) v keys h = (still (key_of d) v keys h.0, all_still ds v keys h.1)

-- with its own key, an item joins the others
pub joined : (d : Data) (ds : Items) (v : Vec ℕ Global) (keys : List (Vec ℕ Global)) → v.items ≡ key_of d → HasKeys ds keys
    → HasKeys (item d ds) (insert_key order keys v)
joined d ds v keys e h = (ap (λ k. has_key k (insert_key order keys v)) (sym e) ∙ now v keys, all_still ds v keys h)

found_at : (d e : Data) (rest : Bool) (keys : List (Vec ℕ Global)) (b : Bool) → same d e ≡ b → (b || rest) ≡ true → has_key (key_of e) keys ≡ true
    → (rest ≡ true → has_key (key_of d) keys ≡ true) → has_key (key_of d) keys ≡ true
found_at d e rest keys true q h k f = ap (λ j. has_key j keys) (same_keys d e q) ∙ k
found_at d e rest keys false q h k f = f h

found : (d : Data) (ds : Items) (keys : List (Vec ℕ Global)) → has_same d ds ≡ true → HasKeys ds keys → has_key (key_of d) keys ≡ true
found d no_items keys h k = absurd (true≢false (sym h))
found d (item e es) keys h k = found_at d e (has_same d es) keys (same d e) refl h k.0 (λ g. found d es keys g k.1)

-- an item whose key is new is like none
pub is_new : (d : Data) (ds : Items) (keys : List (Vec ℕ Global)) (b : Bool) → has_same d ds ≡ b → has_key (key_of d) keys ≡ false → HasKeys ds keys
    → has_same d ds ≡ false
is_new d ds keys true e f h = absurd (true≢false (sym (found d ds keys e h) ∙ f))
is_new d ds keys false e f h = e

pub one_more : (d : Data) (ds : Items) → has_same d ds ≡ false → are_distinct ds ≡ true → are_distinct (item d ds) ≡ true
one_more d ds h k = rw (h, k) refl

repeated_after : (b a : Bool) → a ≡ false → (not b && a) ≡ false
repeated_after true a h = refl
repeated_after false a h = h

-- an item that is repeated behind it
pub repeated : (xs : List Value) (n : ℕ) → are_distinct (items_view (drop n xs)) ≡ false → are_distinct (items_view xs) ≡ false
repeated xs zero h = h
repeated [] (suc n) h = absurd (true≢false h)
repeated (x ∷ xs) (suc n) h = repeated_after (has_same (view x) (items_view xs)) (are_distinct (items_view xs)) (repeated xs n h)

-- the items from the next one on
pub next_tail : (xs : List Value) (n : ℕ) (d : Value) → n < length xs → drop (length xs - (n + 1)) xs ≡ slice_index_or xs (length xs - 1 - n) d ∷ drop (length xs - n) xs
next_tail xs n d h =
    let here : length xs - (n + 1) ≡ length xs - 1 - n = omega arith in
    let next : length xs - 1 - n + 1 ≡ length xs - n = omega (arith, h) in
    ap (λ i. drop i xs) here ∙ drop_more xs (length xs - 1 - n) d (omega (arith, h)) ∙ ap (λ i. slice_index_or xs (length xs - 1 - n) d ∷ drop i xs) next

-- the items behind it, as a slice
pub slice_behind : (xs : List Value) (n : ℕ) → n < length xs → take (length xs - (length xs - 1 - n + 1)) (drop (length xs - 1 - n + 1) xs) ≡ drop (length xs - n) xs
slice_behind xs n h =
    let next : length xs - 1 - n + 1 ≡ length xs - n = omega (arith, h) in
    rw (next, sym (length-drop (length xs - n) xs)) (take-length (drop (length xs - n) xs))

-- by the answer of an insertion
pub apart_if_new : (d : Data) (ds : Items) (v : Vec ℕ Global) (keys : List (Vec ℕ Global)) (answer : Bool) → v.items ≡ key_of d → HasKeys ds keys
    → answer ≡ true → answer ≡ not (list_any (is_at (order v)) keys) → has_same d ds ≡ false
apart_if_new d ds v keys answer e h t a =
    let absent : has_key v.items keys ≡ false = sym (contained v keys) ∙ true_of_not (list_any (is_at (order v)) keys) (sym a ∙ t) in
    is_new d ds keys (has_same d ds) refl (ap (λ k. has_key k keys) (sym e) ∙ absent) h
