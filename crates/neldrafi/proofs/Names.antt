-- The names that were seen so far, as a set that has them.
use Rattle.std.proofs.Common.{◌≡◌, ◌≢◌, ◌∙◌, ℕ, ◌+◌, ◌<◌, ◌≤◌, List, [], ◌∷◌, ◌++◌, length, map, get_or, take, drop}
use Rattle.std.proofs.Common.{Bool, true, false, ◌||◌, cond, Bor, Ordering, refl, sym, ap, subst, true≢false}
use Rattle.std.proofs.lemmas.List.{map-append, take-append-drop, take_all, take_more, drop_more}
use Rattle.std.proofs.lemmas.List.Folds.{list_any-append, list_any_at}
use Rattle.std.proofs.lemmas.List.Quantifiers.{all_pairs_push}
use Rattle.std.proofs.lemmas.Map.Text.{is_eq-slice_cmp}
use Rattle.std.proofs.lemmas.Slice.Eq.{bytes_eq-Decides}
use Rattle.std.specs.BTreeSet.{BTreeSet, contains, Updates}
use Rattle.std.specs.Cmp.Lexicographic.{slice_cmp}
use Rattle.std.specs.List.{list_any}
use Rattle.std.specs.Ordering.{nat_cmp}
use Rattle.std.specs.Str.{bytes_eq}
use Rattle.json.specs.Strict.{AreDistinct, keys}
use Rattle.json.specs.Value.{members_view}
use Rattle.json.specs.declared.value.Value.{Value}
use Rattle.neldrafi.specs.Distinct.{ComesAgain}

-- a name as the code borrows it
abbrev pub Name : Type 0
Name = Bor (List ℕ)

-- how two names compare, byte by byte
abbrev pub name_cmp : Name → Name → Ordering
name_cmp a b = slice_cmp nat_cmp a.now b.now

-- the names of members, in order
abbrev pub names_of : {A : Type 0} → List (Name × Value A) → List (List ℕ)
names_of ms = map (λ m. m.0.now) ms

-- the keys that members stand for are their names
pub keys_are_names : {A : Type 0} (ms : List (Name × Value A)) → keys (members_view ms) ≡ names_of ms
keys_are_names [] = refl
keys_are_names (m ∷ ms) = ap (λ names. m.0.now ∷ names) (keys_are_names ms)

-- the set has these names, and no two of them are equal
abbrev pub HasSeen : BTreeSet Name → List (List ℕ) → Type 0
HasSeen set names = ((name : Name) → contains name_cmp set name ≡ list_any (bytes_eq name.now) names) × AreDistinct names

-- a text compares as equal to itself
same_text : (a : List ℕ) → bytes_eq a a ≡ true
same_text a = (bytes_eq-Decides a a).1 refl

-- whether two texts compare as equal is the same either way round
either_way : (a b : List ℕ) (t u : Bool) → bytes_eq a b ≡ t → bytes_eq b a ≡ u → t ≡ u
either_way a b true true e f = refl
either_way a b false false e f = refl
either_way a b true false e f = absurd (true≢false (sym (same_text a) ∙ ap (λ x. bytes_eq x a) ((bytes_eq-Decides a b).0 e) ∙ f))
either_way a b false true e f = absurd (true≢false (sym (same_text b) ∙ ap (λ x. bytes_eq x b) ((bytes_eq-Decides b a).0 f) ∙ e))

-- true where the one condition holds, and else the other, is whether either holds
one_more : (b c : Bool) → cond b true c ≡ (c || (b || false))
one_more true true = refl
one_more true false = refl
one_more false true = refl
one_more false false = refl

-- a new name keeps them apart
apart : (name : List ℕ) (names : List (List ℕ)) → list_any (bytes_eq name) names ≡ false → AreDistinct names → AreDistinct (names ++ name ∷ [])
apart name names new distinct =
    all_pairs_push (λ a b. a ≢ b) names name distinct
    (λ k d less same. true≢false (sym (list_any_at (bytes_eq name) names k d less (ap (bytes_eq name) same ∙ same_text name)) ∙ new))

-- a set that has seen names, with a new one put in, has seen all of them
pub one_more_seen : (set more : BTreeSet Name) (name : Name) (names : List (List ℕ)) → HasSeen set names → contains name_cmp set name ≡ false
    → Updates name_cmp set more name true → HasSeen more (names ++ name.now ∷ [])
one_more_seen set more name names seen new updated = (
  λ (other : Name).
      updated.0 other ∙ ap (λ b. cond b true (contains name_cmp set other)) (is_eq-slice_cmp name.now other.now ∙ either_way name.now other.now _ _ refl refl)
      ∙ ap (cond (bytes_eq other.now name.now) true) (seen.0 other) ∙ one_more (bytes_eq other.now name.now) (list_any (bytes_eq other.now) names)
      ∙ sym (list_any-append (bytes_eq other.now) names (name.now ∷ [])),
  apart name.now names (sym (seen.0 name) ∙ new) seen.1,
)

-- ---- in members

module _ {A : Type 0} (set : BTreeSet Name) (ms : List (Name × Value A)) (i : ℕ) (seen : HasSeen set (names_of (take i ms))) where
  -- where the set has seen all of them, no two are equal
  pub all_seen : length ms ≤ i → AreDistinct (keys (members_view ms))
  all_seen past = subst AreDistinct (ap names_of (take_all i ms past) ∙ sym (keys_are_names ms)) seen.1

  module _ (m : Name × Value A) (is : m ≡ get_or ms i m) (less : i < length ms) where
    -- the next is a new one
    pub next_seen : (more : BTreeSet Name) → contains name_cmp set m.0 ≡ false → Updates name_cmp set more m.0 true → HasSeen more (names_of (take (i + 1) ms))
    next_seen more new updated =
        let step : names_of (take (i + 1) ms) ≡ names_of (take i ms) ++ m.0.now ∷ [] =
        ap names_of (take_more ms i m less) ∙ map-append (λ x. x.0.now) (take i ms) (get_or ms i m ∷ [])
        ∙ ap (λ x. names_of (take i ms) ++ x.0.now ∷ []) (sym is) in
        subst (HasSeen more) (sym step) (one_more_seen set more m.0 (names_of (take i ms)) seen new updated)

    -- the next is one that it has seen
    pub next_again : contains name_cmp set m.0 ≡ true → ComesAgain m.0.now (keys (members_view ms))
    next_again has = (
      names_of (take i ms),
      names_of (drop (i + 1) ms),
      keys_are_names ms ∙ ap names_of (sym (take-append-drop i ms)) ∙ map-append (λ x. x.0.now) (take i ms) (drop i ms)
          ∙ ap (λ rest. names_of (take i ms) ++ names_of rest) (drop_more ms i m less)
          ∙ ap (λ x. names_of (take i ms) ++ x.0.now ∷ names_of (drop (i + 1) ms)) (sym is),
      sym (seen.0 m.0) ∙ has,
    )
