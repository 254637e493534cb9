-- What a keyword leads to: the instance itself, where its schemas are of that, or values that are less deep.
use Rattle.std.proofs.Common.{◌≡◌, ◌<◌, ◌≤◌, ℕ, zero, suc, List, [], ◌∷◌, ◌++◌, map, drop, take, Bool, true, false, cond, Some, None, Option, refl, arith}
use Rattle.std.specs.Prelude.{if◌then◌else◌}
use Rattle.std.specs.List.{AllByRecursion, filter, flat_map, list_all}
use Rattle.serde_json.specs.Data.{Data, null, boolean, number, string, array, object, Items, no_items, item, Members, no_members, member, depth, items_depth, members_depth}
use Rattle.strkw_keywords.specs.Errors.{Assertion}
use Rattle.neldrafi_schema.specs.Annotations.{annotated, annotates_nothing}
use Rattle.neldrafi_schema.specs.Refusals.{is_in_place}
use Rattle.neldrafi_schema.specs.Rules.{Child, Target, applied, child_at, counts_nothing, first_of, found_valid, is_choice, reached, is_matched, is_present, item_list, member_list, members_in, on_child, on_each, on_items, on_itself, on_matched, on_members, on_names, option_list, other_items_in, other_members_in, others_of, path_of, placed_from, placed_items, spans, target, tested, valid_of}
use Rattle.neldrafi_schema.specs.Schemas.{Rule, types, among, equal_to, limited, multiple_of, sized, distinct, required, reference, all_of, dependent, properties, matching, other_members, no_other_members, member_names, placed, other_items, no_other_items, negation, any_of, one_of, contains, where_valid, where_not_valid, condition, unevaluated, held, Branch, Keyword}
use Rattle.neldrafi_schema.proofs.Depth.{child_depth}

-- ---- facts of each element

one_kept : {A : Type 0} (P : A → Type 0) (b : Bool) (x : A) (xs : List A) → P x → AllByRecursion P xs → AllByRecursion P (cond b (x ∷ xs) xs)
one_kept P true x xs p all = (p, all)
one_kept P false x xs p all = all

all_filtered : {A : Type 0} (P : A → Type 0) (f : A → Bool) (xs : List A) → AllByRecursion P xs → AllByRecursion P (filter f xs)
all_filtered P f [] all = tt
all_filtered P f (x ∷ xs) all = one_kept P (f x) x (filter f xs) all.0 (all_filtered P f xs all.1)

all_dropped : {A : Type 0} (P : A → Type 0) (n : ℕ) (xs : List A) → AllByRecursion P xs → AllByRecursion P (drop n xs)
all_dropped P zero xs all = all
all_dropped P (suc n) [] all = tt
all_dropped P (suc n) (x ∷ xs) all = all_dropped P n xs all.1

all_taken : {A : Type 0} (P : A → Type 0) (n : ℕ) (xs : List A) → AllByRecursion P xs → AllByRecursion P (take n xs)
all_taken P zero xs all = tt
all_taken P (suc n) [] all = tt
all_taken P (suc n) (x ∷ xs) all = (all.0, all_taken P n xs all.1)

-- ---- members and items are less deep

members_less : (ms : Members) (n : ℕ) → members_depth ms ≤ n → AllByRecursion (λ m. depth m.1 < suc n) (member_list ms)
members_less no_members n h = tt
members_less (member k d ms) n h = (omega (arith, h), members_less ms n (omega (arith, h)))

items_less : (ds : Items) (n : ℕ) → items_depth ds ≤ n → AllByRecursion (λ d. depth d < suc n) (item_list ds)
items_less no_items n h = tt
items_less (item d ds) n h = (omega (arith, h), items_less ds n (omega (arith, h)))

pub members_in_less : (d : Data) → AllByRecursion (λ m. depth m.1 < depth d) (members_in d)
members_in_less null = tt
members_in_less (boolean b) = tt
members_in_less (number x) = tt
members_in_less (string s) = tt
members_in_less (array ds) = tt
members_in_less (object ms) = members_less ms (members_depth ms) (omega arith)

placed_less : (n m : ℕ) (ds : List Data) → AllByRecursion (λ d. depth d < m) ds → AllByRecursion (λ i. depth i.1 < m) (placed_from n ds)
placed_less n m [] all = tt
placed_less n m (d ∷ ds) all = (all.0, placed_less (suc n) m ds all.1)

pub items_in_less : (d : Data) → AllByRecursion (λ i. depth i.1 < depth d) (placed_items d)
items_in_less null = tt
items_in_less (boolean b) = tt
items_in_less (number x) = tt
items_in_less (string s) = tt
items_in_less (array ds) = placed_less 0 (suc (items_depth ds)) (item_list ds) (items_less ds (items_depth ds) (omega arith))
items_in_less (object ms) = tt

-- ---- targets

module _ (P : ℕ → Data → Type 0) where
  -- it holds of the schema and the value of each
  abbrev pub Hold : List Target → Type 0
  Hold ts = AllByRecursion (λ t. P t.schema t.value) ts

  pub both_hold : (ts us : List Target) → Hold ts → Hold us → Hold (ts ++ us)
  both_hold [] us p q = q
  both_hold (t ∷ ts) us p q = (p.0, both_hold ts us p.1 q)

  itself_hold : (d : Data) (bs : List Branch) → AllByRecursion (λ b. P b.schema d) bs → Hold (on_itself d bs)
  itself_hold d [] all = tt
  itself_hold d (b ∷ bs) all = (all.0, itself_hold d bs all.1)

  module _ (d : Data) where
    -- it holds of the branch's schema and each value that is less deep
    abbrev pub Deep : Branch → Type 0
    Deep b = (v : Data) → depth v < depth d → P b.schema v

    members_hold : (ms : List (List ℕ × Data)) (b : Branch) → AllByRecursion (λ m. depth m.1 < depth d) ms → Deep b → Hold (on_members ms b)
    members_hold [] b less deep = tt
    members_hold (m ∷ ms) b less deep = (deep m.1 less.0, members_hold ms b less.1 deep)

    items_hold : (is : List (ℕ × Data)) (b : Branch) → AllByRecursion (λ i. depth i.1 < depth d) is → Deep b → Hold (on_items is b)
    items_hold [] b less deep = tt
    items_hold (i ∷ is) b less deep = (deep i.1 less.0, items_hold is b less.1 deep)

    -- a key is a text, which is not deep
    names_hold : (ms : List (List ℕ × Data)) (b : Branch) → AllByRecursion (λ m. depth m.1 < depth d) ms → Deep b
        → Hold (map (λ m. target b (string m.0) []) ms)
    names_hold [] b less deep = tt
    names_hold (m ∷ ms) b less deep = (deep (string m.0) (omega (arith, less.0)), names_hold ms b less.1 deep)

    found_hold : (b : Branch) (o : Option Data) → ((v : Data) → o ≡ Some v → depth v < depth d) → Deep b
        → Hold (map (λ v. target b v (path_of b.key)) (option_list o))
    found_hold b None less deep = tt
    found_hold b (Some v) less deep = (deep v (less v refl), tt)

    child_hold : (b : Branch) → Deep b → Hold (on_child d b)
    child_hold b deep = found_hold b (child_at d b) (child_depth d b) deep

    flat_hold : (f : Branch → List Target) → ((b : Branch) → Deep b → Hold (f b)) → (bs : List Branch) → AllByRecursion Deep bs → Hold (flat_map f bs)
    flat_hold f h [] all = tt
    flat_hold f h (b ∷ bs) all = both_hold (f b) (flat_map f bs) (h b all.0) (flat_hold f h bs all.1)

    matched_hold : (ps : List (List Assertion)) (bs : List Branch) → AllByRecursion Deep bs → Hold (on_matched d ps bs)
    matched_hold [] bs all = tt
    matched_hold (p ∷ ps) [] all = tt
    matched_hold (p ∷ ps) (b ∷ bs) all = both_hold _ (on_matched d ps bs)
        (members_hold _ b (all_filtered _ (λ m. is_matched m.0 p) (members_in d) (members_in_less d)) all.0) (matched_hold ps bs all.1)

    chosen_hold : (b : Bool) (ts us : List Target) → Hold ts → Hold us → Hold (if b then ts else us)
    chosen_hold true ts us p q = p
    chosen_hold false ts us p q = q

    abbrev Here : List Branch → Type 0
    Here bs = AllByRecursion (λ b. P b.schema d) bs

    -- what holds of the instance and the schemas that are of it, and of the others and less deep values, holds of each target
    pub tested_hold : (r : Rule) (bs : List Branch) → (is_in_place r ≡ true → Here bs) → (is_in_place r ≡ false → AllByRecursion Deep bs) → Hold (tested r bs d)
    tested_hold (types f ts) bs here below = tt
    tested_hold (among ds) bs here below = tt
    tested_hold (equal_to e) bs here below = tt
    tested_hold (limited l m) bs here below = tt
    tested_hold (multiple_of m) bs here below = tt
    tested_hold (sized s n) bs here below = tt
    tested_hold distinct bs here below = tt
    tested_hold (required names) bs here below = tt
    tested_hold reference bs here below = tt
    tested_hold all_of bs here below = tt
    tested_hold (dependent names) bs here below = tt
    tested_hold properties bs here below = tt
    tested_hold (matching ps) bs here below = tt
    tested_hold other_members bs here below = tt
    tested_hold no_other_members bs here below = tt
    tested_hold member_names bs here below = tt
    tested_hold placed bs here below = tt
    tested_hold other_items bs here below = tt
    tested_hold no_other_items bs here below = tt
    tested_hold (negation schema) bs here below = itself_hold d bs (here refl)
    tested_hold any_of bs here below = itself_hold d bs (here refl)
    tested_hold one_of bs here below = itself_hold d bs (here refl)
    tested_hold (contains least most counts) bs here below = flat_hold (on_items (placed_items d)) (λ b deep. items_hold (placed_items d) b (items_in_less d) deep) bs (below refl)
    tested_hold where_valid bs here below = itself_hold d (others_of bs) (all_dropped _ 1 bs (here refl))
    tested_hold where_not_valid bs here below = itself_hold d (others_of bs) (all_dropped _ 1 bs (here refl))
    tested_hold condition bs here below = itself_hold d bs (here refl)
    tested_hold (unevaluated x) bs here below = tt
    tested_hold held bs here below = tt

    pub applied_hold : (beside : List Keyword) (r : Rule) (bs : List Branch) (vs : List Bool) → (is_in_place r ≡ true → Here bs)
        → (is_in_place r ≡ false → AllByRecursion Deep bs) → Hold (applied beside r bs d vs)
    applied_hold beside (types f ts) bs vs here below = tt
    applied_hold beside (among ds) bs vs here below = tt
    applied_hold beside (equal_to e) bs vs here below = tt
    applied_hold beside (limited l m) bs vs here below = tt
    applied_hold beside (multiple_of m) bs vs here below = tt
    applied_hold beside (sized s n) bs vs here below = tt
    applied_hold beside distinct bs vs here below = tt
    applied_hold beside (required names) bs vs here below = tt
    applied_hold beside reference bs vs here below = itself_hold d bs (here refl)
    applied_hold beside all_of bs vs here below = itself_hold d bs (here refl)
    applied_hold beside (dependent names) bs vs here below = itself_hold d _ (all_filtered _ (is_present d) bs (here refl))
    applied_hold beside properties bs vs here below = flat_hold (on_child d) child_hold bs (below refl)
    applied_hold beside (matching ps) bs vs here below = matched_hold ps bs (below refl)
    applied_hold beside other_members bs vs here below = flat_hold (on_members (other_members_in beside d))
        (λ b deep. members_hold (other_members_in beside d) b (all_filtered _ _ (members_in d) (members_in_less d)) deep) bs (below refl)
    applied_hold beside no_other_members bs vs here below = tt
    applied_hold beside member_names bs vs here below = flat_hold (on_names d) (λ b deep. names_hold (members_in d) b (members_in_less d) deep) bs (below refl)
    applied_hold beside placed bs vs here below = flat_hold (on_child d) child_hold bs (below refl)
    applied_hold beside other_items bs vs here below = flat_hold (on_items (other_items_in beside d))
        (λ b deep. items_hold (other_items_in beside d) b (all_dropped _ _ (placed_items d) (items_in_less d)) deep) bs (below refl)
    applied_hold beside no_other_items bs vs here below = tt
    applied_hold beside (negation schema) bs vs here below = tt
    applied_hold beside any_of bs vs here below = tt
    applied_hold beside one_of bs vs here below = tt
    applied_hold beside (contains least most counts) bs vs here below = tt
    applied_hold beside where_valid bs vs here below = chosen_hold (list_all (λ v. v) vs) _ _ (itself_hold d (first_of bs) (all_taken _ 1 bs (here refl))) tt
    applied_hold beside where_not_valid bs vs here below = chosen_hold (list_all (λ v. v) vs) _ _ tt (itself_hold d (first_of bs) (all_taken _ 1 bs (here refl)))
    applied_hold beside condition bs vs here below = tt
    applied_hold beside (unevaluated x) bs vs here below = tt
    applied_hold beside held bs vs here below = tt

    valid_hold : (ts : List Target) (vs : List Bool) → Hold ts → Hold (valid_of ts vs)
    valid_hold [] vs all = tt
    valid_hold (t ∷ ts) [] all = tt
    valid_hold (t ∷ ts) (true ∷ vs) all = (all.0, valid_hold ts vs all.1)
    valid_hold (t ∷ ts) (false ∷ vs) all = valid_hold ts vs all.1

    pub reached_hold : (beside : List Keyword) (r : Rule) (bs : List Branch) (vs : List Bool) → Hold (tested r bs d) → Hold (applied beside r bs d vs)
        → Hold (reached beside r bs d vs)
    reached_hold beside r bs vs by_tests by_rule = both_hold (found_valid r bs d vs) (applied beside r bs d vs)
        (chosen_hold (is_choice r) [] _ tt (valid_hold (tested r bs d) vs by_tests)) by_rule

    pub spans_hold : (beside : List Keyword) (r : Rule) (bs : List Branch) (vs : List Bool) → Hold (tested r bs d) → Hold (applied beside r bs d vs)
        → Hold (spans beside r bs d vs)
    spans_hold beside r bs vs by_tests by_rule = chosen_hold (counts_nothing r) [] _ tt (reached_hold beside r bs vs by_tests by_rule)

    pub annotated_hold : (beside : List Keyword) (r : Rule) (bs : List Branch) (vs : List Bool) → Hold (tested r bs d) → Hold (applied beside r bs d vs)
        → Hold (annotated beside r bs d vs)
    annotated_hold beside r bs vs by_tests by_rule = chosen_hold (annotates_nothing r) [] _ tt (reached_hold beside r bs vs by_tests by_rule)

    each_hold : (cs : List Child) (b : Branch) → AllByRecursion (λ c. depth c.1 < depth d) cs → Deep b → Hold (on_each cs b)
    each_hold [] b less deep = tt
    each_hold (c ∷ cs) b less deep = (deep c.1 less.0, each_hold cs b less.1 deep)

    pub left_hold : (cs : List Child) (bs : List Branch) → AllByRecursion (λ c. depth c.1 < depth d) cs → AllByRecursion Deep bs
        → Hold (flat_map (on_each cs) bs)
    left_hold cs bs less deep = flat_hold (on_each cs) (λ b. each_hold cs b less) bs deep
