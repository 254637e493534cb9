-- The names of the groups as a set: it has those that were put in.
use Rattle.std.proofs.Common.{◌≡◌, ◌∙◌, ℕ, ◌+◌, ◌<◌, List, [], ◌∷◌, ◌++◌, length, map, get_or, take, drop, Bool, true, false, not, ◌&&◌, ◌||◌}
use Rattle.std.proofs.Common.{Bor, Ordering, Less, Equal, Greater, nat_le, refl, sym, ap, true≢false}
use Rattle.std.proofs.lemmas.List.{map-append, take-append-drop, take_more, drop_more}
use Rattle.std.proofs.lemmas.List.Folds.{list_any-append}
use Rattle.std.proofs.lemmas.Map.Text.{is_eq-slice_cmp}
use Rattle.std.proofs.lemmas.Slice.Eq.{bytes_eq-Decides}
use Rattle.std.specs.BTreeSet.{BTreeSet, insert_key}
use Rattle.std.specs.Cmp.Lexicographic.{slice_cmp}
use Rattle.std.specs.List.{list_any, list_all}
use Rattle.std.specs.Ordering.{nat_cmp, is_eq, match_ordering}
use Rattle.strkw_regex_grammar.specs.Names.{same_name, are_distinct}
use Rattle.strkw_regex_grammar.specs.machine.NameSets.{has_name}
use Rattle.strkw_regex_grammar.specs.machine.Recognising.{ParserStack, is_closed, is_whole}
use Rattle.strkw_charset.proofs.Booleans.{and_true, and_left, and_right}
use Rattle.strkw_regex_grammar.proofs.LexerItems.{and_false}

-- a name as the code borrows it
abbrev pub Name : Type 0
Name = Bor (List ℕ)

-- how two names compare
abbrev pub name_cmp : Name → Name → Ordering
name_cmp a b = slice_cmp nat_cmp a.now b.now

-- the set has these names and no others
abbrev pub HasNames : BTreeSet Name → List (List ℕ) → Type 0
HasNames set ns = (n : List ℕ) → has_name set n ≡ list_any (same_name n) ns

-- whether a name is this one
abbrev is_at : List ℕ → Name → Bool
is_at n k = is_eq (slice_cmp nat_cmp n k.now)

-- a test that holds is not changed by asking it again
or_again : (b c : Bool) → (b || c) ≡ (b || (b || c))
or_again true c = refl
or_again false c = refl

-- nor by asking another before it
or_swap : (a b c : Bool) → (a || (b || c)) ≡ (b || (a || c))
or_swap true true c = refl
or_swap true false c = refl
or_swap false true c = refl
or_swap false false c = refl

-- names that compare as equal are the same to each test of a name
same_at : (n : List ℕ) (k x : Name) → name_cmp k x ≡ Equal → is_at n x ≡ is_at n k
same_at n k x e = ap (λ z. is_eq (slice_cmp nat_cmp n z)) (sym ((bytes_eq-Decides k.now x.now).0 (sym (is_eq-slice_cmp k.now x.now) ∙ ap is_eq e)))

-- where a key is put in, the set has it and those before
any_insert : (n : List ℕ) (k : Name) (ks : List Name) → list_any (is_at n) (insert_key name_cmp ks k) ≡ (is_at n k || list_any (is_at n) ks)
any_insert n k [] = refl
any_insert n k (x ∷ ks) = by_order (name_cmp k x) refl (any_insert n k ks)
  where
    -- by how it compares with the first
    by_order : (o : Ordering) → name_cmp k x ≡ o → list_any (is_at n) (insert_key name_cmp ks k) ≡ (is_at n k || list_any (is_at n) ks)
        → list_any (is_at n) (match_ordering o (k ∷ x ∷ ks) (x ∷ ks) (x ∷ insert_key name_cmp ks k))
        ≡ (is_at n k || (is_at n x || list_any (is_at n) ks))
    by_order Less e rest = refl
    by_order Equal e rest =
        ap (λ (b : Bool). b || list_any (is_at n) ks) (same_at n k x e) ∙ or_again (is_at n k) (list_any (is_at n) ks)
        ∙ ap (λ (b : Bool). is_at n k || (b || list_any (is_at n) ks)) (sym (same_at n k x e))
    by_order Greater e rest = ap (λ (b : Bool). is_at n x || b) rest ∙ or_swap (is_at n x) (is_at n k) (list_any (is_at n) ks)

-- a test before others is the same behind them
or_last : (a b : Bool) → (a || b) ≡ (b || (a || false))
or_last true true = refl
or_last true false = refl
or_last false true = refl
or_last false false = refl

-- so a set that has names has one more, where it is put in
pub keeps : (set more : BTreeSet Name) (k : Name) (ns : List (List ℕ)) → HasNames set ns → more.keys ≡ insert_key name_cmp set.keys k
    → HasNames more (ns ++ k.now ∷ [])
keeps set more k ns h e n =
    ap (list_any (is_at n)) e ∙ any_insert n k set.keys ∙ ap (λ (b : Bool). is_at n k || b) (h n)
    ∙ ap (λ (b : Bool). b || list_any (same_name n) ns) (is_eq-slice_cmp n k.now)
    ∙ or_last (same_name n k.now) (list_any (same_name n) ns) ∙ sym (list_any-append (same_name n) ns (k.now ∷ []))

-- neither of two tests holds where one of them does not
or_left : (a b : Bool) → (a || b) ≡ false → a ≡ false
or_left true b h = h
or_left false b h = refl

-- the same of the second
or_right : (a b : Bool) → (a || b) ≡ false → b ≡ false
or_right true b h = absurd (true≢false h)
or_right false b h = h

-- where it holds that a test does not, it does not
pub not_false : (b : Bool) → not b ≡ true → b ≡ false
not_false true h = absurd (true≢false (sym h))
not_false false h = refl

-- names stay distinct with one that is none of them
pub distinct_push : (ns : List (List ℕ)) (n : List ℕ) → are_distinct ns ≡ true → list_any (same_name n) ns ≡ false → are_distinct (ns ++ n ∷ []) ≡ true
distinct_push [] n h w = refl
distinct_push (m ∷ ns) n h w =
    and_true _ _
    (ap not (list_any-append (λ k. same_name k m) ns (n ∷ [])
    ∙ ap (λ (b : Bool). b || (same_name n m || false)) (not_false _ (and_left (not (list_any (λ k. same_name k m) ns)) _ h))
    ∙ ap (λ (b : Bool). b || false) (or_left (same_name n m) _ w)))
    (distinct_push ns n (and_right (not (list_any (λ k. same_name k m) ns)) _ h) (or_right (same_name n m) _ w))

-- a test that holds holds behind any
or_true : (a : Bool) → (a || true) ≡ true
or_true true = refl
or_true false = refl

-- names are not distinct where one comes again
pub twice : (ns : List (List ℕ)) (n : List ℕ) (ms : List (List ℕ)) → list_any (same_name n) ns ≡ true → are_distinct (ns ++ n ∷ ms) ≡ false
twice [] n ms h = absurd (true≢false (sym h))
twice (m ∷ ns) n ms h = by_first (same_name n m) refl h (twice ns n ms)
  where
    -- by whether it is the first
    by_first : (b : Bool) → same_name n m ≡ b → (b || list_any (same_name n) ns) ≡ true
        → (list_any (same_name n) ns ≡ true → are_distinct (ns ++ n ∷ ms) ≡ false) → are_distinct (m ∷ (ns ++ n ∷ ms)) ≡ false
    by_first true e w rest =
        ap (λ (b : Bool). not b && are_distinct (ns ++ n ∷ ms))
        (list_any-append (λ k. same_name k m) ns (n ∷ ms)
        ∙ ap (λ (b : Bool). list_any (λ k. same_name k m) ns || (b || list_any (λ k. same_name k m) ms)) e
        ∙ or_true (list_any (λ k. same_name k m) ns))
    by_first false e w rest = and_false (not (list_any (λ k. same_name k m) (ns ++ n ∷ ms))) _ (rest w)

module _ {X : Type 0} (f : X → List ℕ) (xs : List X) (i : ℕ) where
  module _ (x : X) (is : x ≡ get_or xs i x) (less : i < length xs) where
    -- with one element more there is one name more
    pub next_names : map f (take (i + 1) xs) ≡ map f (take i xs) ++ f x ∷ []
    next_names =
        ap (map f) (take_more xs i x less) ∙ map-append f (take i xs) (get_or xs i x ∷ [])
        ∙ ap (λ y. map f (take i xs) ++ f y ∷ []) (sym is)

    -- and others stand behind it
    pub names_from : map f xs ≡ map f (take i xs) ++ f x ∷ map f (drop (i + 1) xs)
    names_from =
        ap (map f) (sym (take-append-drop i xs)) ∙ map-append f (take i xs) (drop i xs)
        ∙ ap (λ rest. map f (take i xs) ++ map f rest) (drop_more xs i x less)
        ∙ ap (λ y. map f (take i xs) ++ f y ∷ map f (drop (i + 1) xs)) (sym is)

-- what holds at the end of a pattern, where no name is there twice
pub whole_named : (t : ParserStack) (set : BTreeSet Name) → (is_closed t.groups && nat_le t.greatest t.captures) ≡ true → are_distinct t.names ≡ true
    → HasNames set t.names → (b : Bool) → b ≡ list_all (has_name set) t.calls → b ≡ is_whole t
whole_named t set g d h b e =
    e ∙ same_all t.calls ∙ ap (λ (z : Bool). z && list_all (λ n. list_any (same_name n) t.names) t.calls) (sym (and_true _ _ g d))
  where
    -- names that the set has are names of groups
    same_all : (ns : List (List ℕ)) → list_all (has_name set) ns ≡ list_all (λ n. list_any (same_name n) t.names) ns
    same_all [] = refl
    same_all (n ∷ ns) =
        ap (λ (z : Bool). z && list_all (has_name set) ns) (h n) ∙ ap (λ (z : Bool). list_any (same_name n) t.names && z) (same_all ns)

-- and where a group is open, or a number too great
pub whole_open : (t : ParserStack) → (is_closed t.groups && nat_le t.greatest t.captures) ≡ false → false ≡ is_whole t
whole_open t g =
    sym (ap (λ (z : Bool). (z && are_distinct t.names) && list_all (λ n. list_any (same_name n) t.names) t.calls) g)
