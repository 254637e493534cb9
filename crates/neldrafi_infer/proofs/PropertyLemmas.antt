-- What is held of a property, hypothesis by hypothesis.
use Rattle.std.proofs.Common.{MatchBool, rules, ◌≡◌, ◌↔◌, ℕ, zero, suc, ◌+◌, ◌-◌, ◌<◌, ◌&&◌, if◌then◌else◌, Bool, true, false, cond, IsTrue, List, [], ◌∷◌, ◌++◌, All, count_by, length, map, take, drop, get_or, nat_le, nat_lt, not, string_bytes, sum_by, filter, sym, ap, refl, ◌∙◌, subst, inl, inr, arith}
use Rattle.std.proofs.lemmas.List.{append-nil, get_or-map, length-map, map-append, map-id, take-map, take_at, take_more}
use Rattle.std.proofs.lemmas.List.Elements.{All-head, All-map, All-same, All-tail, filter-append}
use Rattle.std.proofs.lemmas.Simd.{map-map}
use Rattle.std.proofs.lemmas.List.Folds.{list_all-map}
use Rattle.std.proofs.lemmas.List.Sums.{length-filter, sum_by-append}
use Rattle.std.specs.List.{list_all}
use Rattle.neldrafi_infer.specs.Hypotheses.{Seen, is_of_type}
use Rattle.neldrafi_infer.specs.Kinds.{is_null, is_text}
use Rattle.neldrafi_infer.specs.Tallies.{AreMisfits, IsTallied}
use Rattle.neldrafi_infer.specs.Words.{distinct, times, word_of, word_view}
use Rattle.neldrafi_infer.specs.Properties.{Holds, HoldsIn, IsFirst, about_count, are_held, hypotheses, is_in, is_nearly, texts_of, type_count}
use Rattle.neldrafi_infer.specs.declared.hypotheses.ValueType.{ValueType}
use Rattle.neldrafi_infer.specs.declared.hypotheses.Hypothesis.{Hypothesis}
use Rattle.neldrafi_infer.specs.declared.hypotheses.Hypothesis.TheVariants.{OfType}
use Rattle.neldrafi_infer.specs.declared.hypotheses.ValueType.TheVariants as of
use Rattle.neldrafi_infer.specs.declared.kinds.Kind.{Kind}
use Rattle.neldrafi_infer.specs.declared.kinds.Kind.TheVariants as kind
use Rattle.neldrafi_infer.specs.Proposals.{IsProposed, has_some}
use Rattle.neldrafi_infer.specs.declared.property.Group.{Group}
use Rattle.neldrafi_infer.specs.declared.property.Group.TheVariants.{Types}
use Rattle.neldrafi_infer.specs.declared.tally.Tally.{Tally}
use Rattle.neldrafi_infer.specs.declared.words.Word.{Word}
use Rattle.neldrafi_infer.proofs.TallyLemmas.{one_list}

-- one more element is counted if it passes
pub count_more : {X : Type 0} (p : X → Bool) (xs : List X) (x : X) → count_by p (xs ++ x ∷ []) ≡ count_by p xs + cond (p x) 1 0
count_more {X} p xs x = let f : X → ℕ = λ y. cond (p y) 1 0 in sum_by-append f xs (x ∷ []) ∙ ap (λ n. sum_by f xs + n) (let e : 0 + f x ≡ f x = omega arith in e)

-- the first element is counted if it passes
pub count_first : {X : Type 0} (p : X → Bool) (x : X) (xs : List X) → count_by p (x ∷ xs) ≡ cond (p x) 1 0 + count_by p xs
count_first {X} p x xs = let f : X → ℕ = λ y. cond (p y) 1 0 in sum_by-append f (x ∷ []) xs ∙ ap (λ n. n + sum_by f xs) (let e : 0 + f x ≡ f x = omega arith in e)

-- .. and so is the count that was kept
pub count_step : {X : Type 0} (p : X → Bool) (xs : List X) (x : X) (old new : ℕ) (b : Bool) → b ≡ p x → new ≡ old + cond b 1 0 → old ≡ count_by p xs → new ≡ count_by p (xs ++ x ∷ [])
count_step p xs x old new b passes step was =
    step ∙ (ap (λ n. n + cond b 1 0) was ∙ (ap (λ c. count_by p xs + cond c 1 0) passes ∙ sym (count_more p xs x)))

-- what is said of none before a place, and at that place, is said there first
pub first_at : (P : Hypothesis → Type 0) (hs : List Hypothesis) (k : ℕ) (h : Hypothesis) → All (λ x. P x → ⊥) (take k hs) → k < length hs → get_or hs k h ≡ h → P h → IsFirst P hs h
first_at P [] k h none less at holds = absurd (let wrong : k < 0 = less in omega (arith, wrong))
first_at P (x ∷ hs) zero h none less at holds = inl (subst P (sym at) holds, at)
first_at P (x ∷ hs) (suc k) h none less at holds =
    inr (All-head (λ x. P x → ⊥) x (take k hs) none, first_at P hs k h (All-tail (λ x. P x → ⊥) x (take k hs) none) (let l : suc k < suc (length hs) = less in omega (arith, l)) at holds)

-- a tallied hypothesis holds exactly if its misfits are few
pub holds_if : (ss : List Seen) (t : Tally) (h : Hypothesis) → t.hypothesis ≡ h → IsTallied ss t → IsTrue (is_nearly t.count (about_count h ss)) → Holds ss h
holds_if ss t h is tallied few =
    let P : Hypothesis → Type 0 = λ x. AreMisfits x ss tallied.misfits in
    let Q : ℕ → Type 0 = λ m. IsTrue (is_nearly m (about_count h ss)) in
    (tallied.misfits, subst P is tallied.are, subst Q tallied.count few)

pub few_if : (ss : List Seen) (t : Tally) (h : Hypothesis) → t.hypothesis ≡ h → IsTallied ss t → Holds ss h → IsTrue (is_nearly t.count (about_count h ss))
few_if ss t h is tallied holds =
    let P : Hypothesis → Type 0 = λ x. AreMisfits x ss tallied.misfits in
    let Q : ℕ → Type 0 = λ m. IsTrue (is_nearly m (about_count h ss)) in
    let same : tallied.misfits ≡ holds.0 = one_list h ss tallied.misfits holds.0 (subst P is tallied.are) holds.1 in
    subst Q (sym (tallied.count ∙ ap length same)) holds.2

-- one more tally is made
pub made_more : (ts us : List Tally) (t : Tally) (hs : List Hypothesis) (i : ℕ) (h : Hypothesis) → us ≡ ts ++ t ∷ [] → t.hypothesis ≡ get_or hs i h → i < length hs → map (λ u. u.hypothesis) ts ≡ take i hs → map (λ u. u.hypothesis) us ≡ take (i + 1) hs
made_more ts us t hs i h pushed at within made =
    let name : Tally → Hypothesis = λ u. u.hypothesis in
    ap (map name) pushed ∙ (map-append name ts (t ∷ []) ∙ (ap (λ l. l ++ t.hypothesis ∷ []) made
    ∙ (ap (λ x. take i hs ++ x ∷ []) at ∙ sym (take_more hs i h within))))

-- the hypothesis of a tally holds and is the first of the group that does
pub first_tally : (g : Group) (ss : List Seen) (ts : List Tally) (i : ℕ) (t : Tally) → map (λ u. u.hypothesis) ts ≡ hypotheses → All (λ u. HoldsIn g ss u.hypothesis → ⊥) (take i ts) → i < length ts → t ≡ get_or ts i t → HoldsIn g ss t.hypothesis → IsFirst (HoldsIn g ss) hypotheses t.hypothesis
first_tally g ss ts i t names none within at holds =
    let name : Tally → Hypothesis = λ u. u.hypothesis in
    let P : Hypothesis → Type 0 = λ h. HoldsIn g ss h → ⊥ in
    let Q : List Hypothesis → Type 0 = λ hs. IsFirst (HoldsIn g ss) hs t.hypothesis in
    let before : All P (take i (map name ts)) = All-same P (take i (map name ts)) (map name (take i ts)) (take-map name i ts) (All-map P name (take i ts) none) in
    let less : i < length (map name ts) = rw length-map within in
    let here : get_or (map name ts) i t.hypothesis ≡ t.hypothesis = get_or-map name ts i t t.hypothesis within ∙ ap name (sym at) in
    subst Q names (first_at (HoldsIn g ss) (map name ts) i t.hypothesis before less here holds)

-- none of the group holds
pub none_holds : (g : Group) (ss : List Seen) (ts : List Tally) → map (λ u. u.hypothesis) ts ≡ hypotheses → All (λ u. HoldsIn g ss u.hypothesis → ⊥) ts → All (λ h. HoldsIn g ss h → ⊥) hypotheses
none_holds g ss ts names none =
    let name : Tally → Hypothesis = λ u. u.hypothesis in
    let P : Hypothesis → Type 0 = λ h. HoldsIn g ss h → ⊥ in
    All-same P hypotheses (map name ts) (sym names) (All-map P name ts none)

-- the test of a tally of the group is that its hypothesis holds
pub is_held_if : (g : Group) (ss : List Seen) (t : Tally) (nearly : Bool) → IsTallied ss t → is_in g t.hypothesis ≡ true → nearly ≡ is_nearly t.count (about_count t.hypothesis ss) → IsTrue nearly ↔ HoldsIn g ss t.hypothesis
is_held_if g ss t nearly tallied has nearly_is = (
  λ h. (subst IsTrue (sym has) (let yes_it : IsTrue true = search rules in yes_it), holds_if ss t t.hypothesis refl tallied (subst IsTrue nearly_is h)),
  λ h. subst IsTrue (sym nearly_is) (few_if ss t t.hypothesis refl tallied h.1),
)

-- elements that were written over a whole list are the list
pub written_over : {X : Type 0} (new old : List X) (n : ℕ) → length new ≡ n → take n (new ++ drop (length new) old) ≡ new
written_over new old n is = take_at new (drop (length new) old) n is

either_one : (b : Bool) → cond (not b) 1 0 + cond b 1 0 ≡ 1
either_one true = omega arith
either_one false = omega arith

-- what is not null and what is null are all
null_count : (ss : List Seen) → count_by (λ s. not (is_null s.kind)) ss + count_by (λ s. is_null s.kind) ss ≡ length ss
null_count [] = omega arith
null_count (s ∷ ss) =
    let rest = null_count ss in
    let first = count_first (λ t. not (is_null t.kind)) s ss in
    let second = count_first (λ t. is_null t.kind) s ss in
    let one = either_one (is_null s.kind) in
    omega (arith, rest, first, second, one)

-- there is a null if there are more values than those that are not null
pub null_if : (ss : List Seen) (values total : ℕ) → values ≡ count_by (λ s. not (is_null s.kind)) ss → total ≡ length ss → IsTrue (nat_lt values total) ↔ (0 < count_by (λ s. is_null s.kind) ss)
null_if ss values total values_is total_is =
    let all = null_count ss in (
      λ h. let less : values < total = search rules in omega (arith, all),
      λ h. let less : values < total = omega (arith, all) in search rules,
    )

null_of_none : (t : ValueType) → is_of_type t kind.Null ≡ true → ⊥
null_of_none of.Boolean is = let wrong : false ≡ true = is in search rules
null_of_none of.Integer is = let wrong : false ≡ true = is in search rules
null_of_none of.Number is = let wrong : false ≡ true = is in search rules
null_of_none of.String is = let wrong : false ≡ true = is in search rules
null_of_none of.Array is = let wrong : false ≡ true = is in search rules
null_of_none of.Object is = let wrong : false ≡ true = is in search rules

-- no null is of a type
no_null : (t : ValueType) (k : Kind) → is_of_type t k ≡ true → not (is_null k) ≡ true
no_null t kind.Null is = absurd (null_of_none t is)
no_null t kind.Boolean is = refl
no_null t kind.Integer is = refl
no_null t kind.Number is = refl
no_null t kind.String is = refl
no_null t kind.Array is = refl
no_null t kind.Object is = refl
no_null t kind.BooleanField is = refl
no_null t kind.IntegerField is = refl
no_null t kind.NumberField is = refl

-- a misfit is counted among those that are not null, and not among those of the type
misfit_counts : (about fits : Bool) → IsTrue about → (IsTrue fits → ⊥) → 1 + cond fits 1 0 ≡ cond about 1 0
misfit_counts true true is fails = absurd (fails (search rules))
misfit_counts true false is fails = omega arith
misfit_counts false fits is fails = let wrong : IsTrue false = is in absurd (search rules)

-- any other is counted among both, or neither
fit_counts : (about fits : Bool) → (fits ≡ true → about ≡ true) → (IsTrue about → IsTrue fits) → 0 + cond fits 1 0 ≡ cond about 1 0
fit_counts true true also fit = omega arith
fit_counts true false also fit = let wrong : IsTrue false = fit (search rules) in absurd (search rules)
fit_counts false true also fit = let wrong : false ≡ true = also refl in absurd (search rules)
fit_counts false false also fit = omega arith

-- those that are not null either are of a type or are misfits
type_parts : (t : ValueType) (ss misfits : List Seen) → AreMisfits (OfType t) ss misfits → length misfits + type_count t ss ≡ count_by (λ s. not (is_null s.kind)) ss
type_parts t [] misfits are = let none : length misfits ≡ 0 = ap length are in omega (arith, none)
type_parts t (s ∷ ss) misfits are =
    let first = count_first (λ r. is_of_type t r.kind) s ss in
    let second = count_first (λ r. not (is_null r.kind)) s ss in
    elim are [
      | inl w ↦
          let n : length misfits ≡ suc (length w.1) = ap length w.2 in
          let rest = type_parts t ss w.1 w.3 in
          let here = misfit_counts (not (is_null s.kind)) (is_of_type t s.kind) w.0.0 w.0.1 in
          omega (arith, first, second, n, rest, here)
      | inr w ↦
          let rest = type_parts t ss misfits w.1 in
          let here = fit_counts (not (is_null s.kind)) (is_of_type t s.kind) (no_null t s.kind) w.0 in
          omega (arith, first, second, rest, here)
    ]

-- as many are of a type as are not null and no misfits
pub type_if : (ss : List Seen) (t : Tally) (of_type : ValueType) (values : ℕ) → t.hypothesis ≡ OfType of_type → IsTallied ss t → values ≡ count_by (λ s. not (is_null s.kind)) ss → values - t.count ≡ type_count of_type ss
type_if ss t of_type values same tallied values_is =
    let P : Hypothesis → Type 0 = λ x. AreMisfits x ss tallied.misfits in
    let parts = type_parts of_type ss tallied.misfits (subst P same tallied.are) in
    let count = tallied.count in
    omega (arith, parts, count, values_is)

-- what no tally has is no hypothesis
no_tally : (h : Hypothesis) (ts : List Tally) → map (λ u. u.hypothesis) ts ≡ hypotheses → All (λ u. u.hypothesis ≡ h → ⊥) ts → (k : ℕ) → k < 14 → get_or hypotheses k h ≡ h → ⊥
no_tally h ts names none k less at =
    let name : Tally → Hypothesis = λ u. u.hypothesis in
    let P : Hypothesis → Type 0 = λ x. x ≡ h → ⊥ in
    let others : All P hypotheses = All-same P hypotheses (map name ts) (sym names) (All-map P name ts none) in
    others k h less at

-- each type has a tally
pub has_each_type : (t : ValueType) (ts : List Tally) → map (λ u. u.hypothesis) ts ≡ hypotheses → All (λ u. u.hypothesis ≡ OfType t → ⊥) ts → ⊥
has_each_type of.Boolean ts names none = no_tally (OfType of.Boolean) ts names none 0 (omega arith) refl
has_each_type of.Integer ts names none = no_tally (OfType of.Integer) ts names none 1 (omega arith) refl
has_each_type of.Number ts names none = no_tally (OfType of.Number) ts names none 2 (omega arith) refl
has_each_type of.String ts names none = no_tally (OfType of.String) ts names none 3 (omega arith) refl
has_each_type of.Array ts names none = no_tally (OfType of.Array) ts names none 4 (omega arith) refl
has_each_type of.Object ts names none = no_tally (OfType of.Object) ts names none 5 (omega arith) refl

-- one more value may be one more text
pub text_more : (ss : List Seen) (s : Seen) → texts_of (ss ++ s ∷ []) ≡ (if is_text s.kind then texts_of ss ++ s.text ∷ [] else texts_of ss)
text_more ss s =
    let text : Seen → List ℕ = λ r. r.text in
    let p : Seen → Bool = λ r. is_text r.kind in
    ap (map text) (filter-append p ss (s ∷ [])) ∙ elim (is_text s.kind) as (λ b. map text (filter p ss ++ cond b (s ∷ []) []) ≡ (if b then texts_of ss ++ s.text ∷ [] else texts_of ss)) [
      | true ↦ map-append text (filter p ss) (s ∷ [])
      | false ↦ ap (map text) (append-nil (filter p ss))
    ]

same_if : (o a b : Bool) → (o ≡ false → a ≡ b) → (not o && a) ≡ (not o && b)
same_if true a b same = refl
same_if false a b same = same refl

-- the count of the texts, and whether the words are held
pub held_if : (ss : List Seen) (n : ℕ) (over : Bool) (ws : List Word) → n ≡ count_by (λ s. is_text s.kind) ss → over ≡ nat_lt 10 (length (distinct (texts_of ss))) → (over ≡ false → map word_view ws ≡ map (word_of (texts_of ss)) (distinct (texts_of ss))) → (nat_le 50 n && (not over && list_all (λ w. w.is_repeated) ws)) ≡ are_held (texts_of ss)
held_if ss n over ws count is words =
    let texts = texts_of ss in
    let few : Bool → Bool → Bool = λ o all. nat_le 50 (length texts) && (not o && all) in
    let size : n ≡ length texts = count ∙ (sym (length-filter (λ s. is_text s.kind) ss) ∙ sym (length-map (filter (λ s. is_text s.kind) ss) (λ s. s.text))) in
    let again : over ≡ false → list_all (λ w. w.is_repeated) ws ≡ list_all (λ word. nat_le 2 (times word texts)) (distinct texts) = λ o.
    sym (list_all-map (λ p. p.1) word_view ws) ∙ (ap (list_all (λ p. p.1)) (words o) ∙ list_all-map (λ p. p.1) (word_of texts) (distinct texts)) in
    ap (λ m. nat_le 50 m && (not over && list_all (λ w. w.is_repeated) ws)) size
    ∙ (ap (λ b. nat_le 50 (length texts) && b) (same_if over (list_all (λ w. w.is_repeated) ws) (list_all (λ word. nat_le 2 (times word texts)) (distinct texts)) again)
    ∙ ap (λ o. few o (list_all (λ word. nat_le 2 (times word texts)) (distinct texts))) is)

-- the words, if they are
pub same_words : (texts : List (List ℕ)) (ws : List Word) → map word_view ws ≡ map (word_of texts) (distinct texts) → map (λ w. string_bytes w.text) ws ≡ distinct texts
same_words texts ws are =
    let first : List ℕ × Bool → List ℕ = λ p. p.0 in
    sym (map-map first word_view ws) ∙ (ap (map first) are ∙ (map-map first (word_of texts) (distinct texts) ∙ map-id (distinct texts)))

and_left : (a b : Bool) → (a && b) ≡ true → b ≡ true
and_left true b is = is
and_left false b is = let wrong : false ≡ true = is in absurd (search rules)

and_first : (a b : Bool) → (a && b) ≡ true → a ≡ true
and_first true b is = refl
and_first false b is = is

not_false : (a : Bool) → not a ≡ true → a ≡ false
not_false true is = sym is
not_false false is = refl

-- words that are held are few
pub few_if_held : (texts : List (List ℕ)) → are_held texts ≡ true → nat_lt 10 (length (distinct texts)) ≡ false
few_if_held texts held =
    let over = nat_lt 10 (length (distinct texts)) in
    let again = list_all (λ word. nat_le 2 (times word texts)) (distinct texts) in
    not_false over (and_first (not over) again (and_left (nat_le 50 (length texts)) (not over && again) held))

-- the first is one
first_only : (P : Hypothesis → Type 0) (hs : List Hypothesis) (h k : Hypothesis) → IsFirst P hs h → IsFirst P hs k → h ≡ k
first_only P [] h k a b = absurd a
first_only P (x ∷ hs) h k a b = elim a [
  | inl p ↦ elim b [ inl q ↦ sym p.1 ∙ q.1 | inr q ↦ absurd (q.0 p.0) ]
  | inr p ↦ elim b [ inl q ↦ absurd (p.0 q.0) | inr q ↦ first_only P hs h k p.1 q.1 ]
]

first_some : (P : Hypothesis → Type 0) (hs : List Hypothesis) (h : Hypothesis) → IsFirst P hs h → All (λ x. P x → ⊥) hs → ⊥
first_some P [] h a none = a
first_some P (x ∷ hs) h a none = elim a [
  | inl p ↦ All-head (λ y. P y → ⊥) x hs none p.0
  | inr p ↦ first_some P hs h p.1 (All-tail (λ y. P y → ⊥) x hs none)
]

-- where a type is held, it alone is proposed
pub held_proposes : (ss : List Seen) (h : Hypothesis) (t : ValueType) (b : Bool) → IsFirst (HoldsIn Types ss) hypotheses h → (b ≡ true → h ≡ OfType t) → (h ≡ OfType t → b ≡ true) → MatchBool b (IsProposed ss t) (IsProposed ss t → ⊥)
held_proposes ss h t true first is same =
    let P : Hypothesis → Type 0 = λ x. IsFirst (HoldsIn Types ss) hypotheses x in
    inl (subst P (is refl) first)
held_proposes ss h t false first is same = λ proposed. elim proposed [
  | inl other ↦
      let wrong : false ≡ true = same (first_only (HoldsIn Types ss) hypotheses h (OfType t) first other) in
      absurd (search rules)
  | inr none ↦ absurd (first_some (HoldsIn Types ss) hypotheses h first none.0)
]

-- where none is, each that some values have
pub some_proposes : (ss : List Seen) (t : ValueType) (b : Bool) → All (λ h. HoldsIn Types ss h → ⊥) hypotheses → b ≡ has_some ss t → MatchBool b (IsProposed ss t) (IsProposed ss t → ⊥)
some_proposes ss t true none is = inr (none, sym is)
some_proposes ss t false none is = λ proposed. elim proposed [
  | inl first ↦ first_some (HoldsIn Types ss) hypotheses (OfType t) first none
  | inr some ↦ let wrong : false ≡ true = is ∙ (let e : has_some ss t ≡ true = search rules in e) in absurd (search rules)
]

-- a type that is neither of the types of numbers is had if a value has it
pub has_other : (ss : List Seen) (t : ValueType) → (t ≡ of.Integer → ⊥) → (t ≡ of.Number → ⊥) → has_some ss t ≡ nat_lt 0 (type_count t ss)
has_other ss of.Boolean no_integer no_number = refl
has_other ss of.Integer no_integer no_number = absurd (no_integer refl)
has_other ss of.Number no_integer no_number = absurd (no_number refl)
has_other ss of.String no_integer no_number = refl
has_other ss of.Array no_integer no_number = refl
has_other ss of.Object no_integer no_number = refl
