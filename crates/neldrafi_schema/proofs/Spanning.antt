-- What the keywords of a schema evaluate of an instance, and which children they leave.
use Rattle.std.proofs.Common.{◌≡◌, ◌↔◌, inl, inr, ℕ, zero, suc, ◌<◌, List, [], ◌∷◌, map, refl, sym, ap, ◌∙◌, Bool, Some, None, Option}
use Rattle.std.specs.Prelude.{MatchOption, slice_get, length}
use Rattle.std.specs.List.{AllByRecursion, flat_map}
use Rattle.serde_json.specs.Data.{Data, depth}
use Rattle.neldrafi_schema.specs.declared.node.Part.{Part}
use Rattle.neldrafi_schema.specs.declared.node.Part.TheVariants as part
use Rattle.neldrafi_schema.specs.Paths.{Segment, key, place}
use Rattle.neldrafi_schema.specs.Rules.{Child, Target, children, members_in, on_each, placed_items, spans, tested}
use Rattle.neldrafi_schema.specs.Schemas.{Branch, Keyword, rule, string_keyword, malformed, Body, always, never, keywords, neither, Schema}
use Rattle.neldrafi_schema.specs.Meaning.{AreLeft, AreUnevaluated, AreVerdicts, Below, BesideEvaluates, BodyEvaluates, Evaluates, Evaluating, KeywordEvaluates, OneOf, TargetEvaluates, root_site}
use Rattle.neldrafi_schema.proofs.Fitting.{IsBodyFine, IsKeywordFine, IsLess}
use Rattle.neldrafi_schema.proofs.Within.{Hold, items_in_less, members_in_less, spans_hold}

-- ---- what is left

pub left_same : (E : Segment → Type 0) (cs l m : List Child) → AreLeft E cs l → AreLeft E cs m → l ≡ m
left_same E [] l m p q = p ∙ sym q
left_same E (c ∷ cs) l m (a, p, inl (e, x)) (b, q, inl (f, y)) = x ∙ left_same E cs a b p q ∙ sym y
left_same E (c ∷ cs) l m (a, p, inl (e, x)) (b, q, inr (n, y)) = absurd (n e)
left_same E (c ∷ cs) l m (a, p, inr (n, x)) (b, q, inl (f, y)) = absurd (n f)
left_same E (c ∷ cs) l m (a, p, inr (n, x)) (b, q, inr (o, y)) = x ∙ ap (λ r. c ∷ r) (left_same E cs a b p q) ∙ sym y

pub unevaluated_same : (schemas : List Schema) (below : Below) (beside : List Keyword) (d : Data) (o : Option Part) (l m : List Child)
    → AreUnevaluated schemas below beside d o l → AreUnevaluated schemas below beside d o m → l ≡ m
unevaluated_same schemas below beside d None l m p q = p ∙ sym q
unevaluated_same schemas below beside d (Some x) l m p q =
    left_same (λ s. OneOf (BesideEvaluates schemas below beside d s) beside) (children x d) l m p q

-- it holds of what is left, if it does of all
left_all : (E : Segment → Type 0) (P : Child → Type 0) (cs l : List Child) → AreLeft E cs l → AllByRecursion P cs → AllByRecursion P l
left_all E P [] l p all = rw p tt
left_all E P (c ∷ cs) l (a, p, inl (e, x)) all = rw x (left_all E P cs a p all.1)
left_all E P (c ∷ cs) l (a, p, inr (n, x)) all = rw x (all.0, left_all E P cs a p all.1)

members_are_less : (d : Data) (ms : List (List ℕ × Data)) → AllByRecursion (λ m. depth m.1 < depth d) ms → AllByRecursion (IsLess d) (map (λ m. (key m.0, m.1)) ms)
members_are_less d [] all = tt
members_are_less d (m ∷ ms) all = (all.0, members_are_less d ms all.1)

items_are_less : (d : Data) (is : List (ℕ × Data)) → AllByRecursion (λ i. depth i.1 < depth d) is → AllByRecursion (IsLess d) (map (λ i. (place i.0, i.1)) is)
items_are_less d [] all = tt
items_are_less d (i ∷ is) all = (all.0, items_are_less d is all.1)

pub children_are_less : (d : Data) (x : Part) → AllByRecursion (IsLess d) (children x d)
children_are_less d part.Members = members_are_less d (members_in d) (members_in_less d)
children_are_less d part.Items = items_are_less d (placed_items d) (items_in_less d)

none_hold : (Fine : ℕ → Data → Type 0) (bs : List Branch) → Hold Fine (flat_map (on_each []) bs)
none_hold Fine [] = tt
none_hold Fine (b ∷ bs) = none_hold Fine bs

unevaluated_less : (schemas : List Schema) (below : Below) (beside : List Keyword) (d : Data) (o : Option Part) (l : List Child)
    → AreUnevaluated schemas below beside d o l → AllByRecursion (IsLess d) l
unevaluated_less schemas below beside d None l p = rw p tt
unevaluated_less schemas below beside d (Some x) l p =
    left_all (λ s. OneOf (BesideEvaluates schemas below beside d s) beside) (IsLess d) (children x d) l p (children_are_less d x)

-- what is required of children holds of what is left; without such a rule, nothing is
pub unevaluated_fine : (schemas : List Schema) (below : Below) (Fine : ℕ → Data → Type 0) (beside : List Keyword) (d : Data) (o : Option Part) (bs : List Branch) (l : List Child)
    → AreUnevaluated schemas below beside d o l
    → ((x : Part) → o ≡ Some x → (left : List Child) → AllByRecursion (IsLess d) left → Hold Fine (flat_map (on_each left) bs))
    → Hold Fine (flat_map (on_each l) bs)
unevaluated_fine schemas below Fine beside d None bs l p fine = rw p (none_hold Fine bs)
unevaluated_fine schemas below Fine beside d (Some x) bs l p fine = fine x refl l (unevaluated_less schemas below beside d (Some x) l p)

-- it cannot be that nothing is what is left
left_is : (E : Segment → Type 0) (cs : List Child) → ((l : List Child) → AreLeft E cs l → ⊥) → ⊥
left_is E [] none = none [] refl
left_is E (c ∷ cs) none = left_is E cs (λ l p.
    none (c ∷ l) (l, p, inr ((λ e. none l (l, p, inl (e, refl))), refl)))

pub unevaluated_is : (schemas : List Schema) (below : Below) (beside : List Keyword) (d : Data) (o : Option Part)
    → ((l : List Child) → AreUnevaluated schemas below beside d o l → ⊥) → ⊥
unevaluated_is schemas below beside d None none = none [] refl
unevaluated_is schemas below beside d (Some x) none =
    left_is (λ s. OneOf (BesideEvaluates schemas below beside d s) beside) (children x d) none

-- ---- by verdicts that agree, the same is evaluated

pub left_too : (E F : Segment → Type 0) → ((s : Segment) → E s ↔ F s) → (cs l : List Child) → AreLeft E cs l → AreLeft F cs l
left_too E F same [] l p = p
left_too E F same (c ∷ cs) l (a, p, inl (e, x)) = (a, left_too E F same cs a p, inl ((same c.0).0 e, x))
left_too E F same (c ∷ cs) l (a, p, inr (n, x)) = (a, left_too E F same cs a p, inr ((λ f. n ((same c.0).1 f)), x))

module _ (Fine : ℕ → Data → Type 0) (below other : Below)
    (verdicts_too : (word : List ℕ) (ts : List Target) (vs : List Bool) → Hold Fine ts → AreVerdicts below root_site word ts vs → AreVerdicts other root_site word ts vs) where
  module _ (inner behind : Evaluating) (too : (n : ℕ) (d : Data) → Fine n d → inner n d → behind n d) (d : Data) (s : Segment) where
    target_too : (t : Target) → Fine t.schema t.value → TargetEvaluates inner s t → TargetEvaluates behind s t
    target_too t fine (inl e) = inl e
    target_too t fine (inr (e, p)) = inr (e, too t.schema t.value fine p)

    targets_too : (ts : List Target) → Hold Fine ts → OneOf (TargetEvaluates inner s) ts → OneOf (TargetEvaluates behind s) ts
    targets_too [] fine p = p
    targets_too (t ∷ ts) fine (inl p) = inl (target_too t fine.0 p)
    targets_too (t ∷ ts) fine (inr p) = inr (targets_too ts fine.1 p)

    keyword_too : (beside : List Keyword) (k : Keyword) → IsKeywordFine Fine d beside k
        → KeywordEvaluates below inner beside d s k → KeywordEvaluates other behind beside d s k
    keyword_too beside (rule word r bs) fine (inl e) = inl e
    keyword_too beside (rule word r bs) fine (inr (vs, v, p)) = inr (
      vs,
      verdicts_too word (tested r bs d) vs fine.0 v,
      targets_too (spans beside r bs d vs) (spans_hold Fine d beside r bs vs fine.0 (fine.1 vs)) p,
    )
    keyword_too beside (string_keyword word asserted) fine p = p
    keyword_too beside (malformed path why) fine p = p

    keywords_too : (beside ks : List Keyword) → AllByRecursion (IsKeywordFine Fine d beside) ks
        → OneOf (KeywordEvaluates below inner beside d s) ks → OneOf (KeywordEvaluates other behind beside d s) ks
    keywords_too beside [] fine p = p
    keywords_too beside (k ∷ ks) fine (inl p) = inl (keyword_too beside k fine.0 p)
    keywords_too beside (k ∷ ks) fine (inr p) = inr (keywords_too beside ks fine.1 p)

    body_too : (body : Body) → IsBodyFine Fine d body → BodyEvaluates below inner d s body → BodyEvaluates other behind d s body
    body_too always fine p = p
    body_too never fine p = p
    body_too (keywords ks) fine p = keywords_too ks ks fine p
    body_too neither fine p = p

    there_too : (o : Option Schema) → ((t : Schema) → o ≡ Some t → IsBodyFine Fine d t.body)
        → MatchOption o ⊥ (λ t. BodyEvaluates below inner d s t.body) → MatchOption o ⊥ (λ t. BodyEvaluates other behind d s t.body)
    there_too None fine p = p
    there_too (Some t) fine p = body_too t.body (fine t refl) p

  module _ (schemas : List Schema) (closed : (n : ℕ) (d : Data) → Fine n d → (t : Schema) → slice_get schemas n ≡ Some t → IsBodyFine Fine d t.body) where
    evaluates_too : (s : Segment) (steps n : ℕ) (d : Data) → Fine n d → Evaluates schemas below s steps n d → Evaluates schemas other s steps n d
    unfolding Evaluates
    evaluates_too s zero n d fine p = p
    evaluates_too s (suc steps) n d fine p = there_too (Evaluates schemas below s steps) (Evaluates schemas other s steps) (evaluates_too s steps) d s
        (slice_get schemas n) (closed n d fine) p

    beside_too : (beside : List Keyword) (d : Data) (s : Segment) (k : Keyword) → IsKeywordFine Fine d beside k
        → BesideEvaluates schemas below beside d s k → BesideEvaluates schemas other beside d s k
    beside_too beside d s (rule word r bs) fine (e, p) = (
      e,
      keyword_too (Evaluates schemas below s (length schemas)) (Evaluates schemas other s (length schemas))
          (evaluates_too s (length schemas)) d s beside (rule word r bs) fine p,
    )
    beside_too beside d s (string_keyword word asserted) fine p = p
    beside_too beside d s (malformed path why) fine p = p

    pub besides_too : (beside : List Keyword) (d : Data) (s : Segment) (ks : List Keyword) → AllByRecursion (IsKeywordFine Fine d beside) ks
        → OneOf (BesideEvaluates schemas below beside d s) ks → OneOf (BesideEvaluates schemas other beside d s) ks
    besides_too beside d s [] fine p = p
    besides_too beside d s (k ∷ ks) fine (inl p) = inl (beside_too beside d s k fine.0 p)
    besides_too beside d s (k ∷ ks) fine (inr p) = inr (besides_too beside d s ks fine.1 p)

pub unevaluated_too : (schemas : List Schema) (below other : Below) (beside : List Keyword) (d : Data)
    → ((s : Segment) → OneOf (BesideEvaluates schemas below beside d s) beside ↔ OneOf (BesideEvaluates schemas other beside d s) beside)
    → (o : Option Part) (l : List Child) → AreUnevaluated schemas below beside d o l → AreUnevaluated schemas other beside d o l
unevaluated_too schemas below other beside d same None l p = p
unevaluated_too schemas below other beside d same (Some x) l p = left_too (λ s. OneOf (BesideEvaluates schemas below beside d s) beside)
    (λ s. OneOf (BesideEvaluates schemas other beside d s) beside) same (children x d) l p
