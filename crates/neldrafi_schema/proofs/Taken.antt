-- What the walk takes from the children that are left, keyword by keyword and target by target.
use Rattle.std.proofs.Common.{◌≡◌, inl, inr, ℕ, zero, suc, ◌-◌, ◌≤◌, List, [], ◌∷◌, ◌++◌, length, get_or, refl, sym, ap, ◌∙◌, subst, arith, append-nil, Bool, true, false, cond, Some, None, Option, Vec, Global}
use Rattle.std.proofs.lemmas.Bool.{false≢true}
use Rattle.std.proofs.lemmas.Bool.Decides.{Decides-eqb}
use Rattle.std.proofs.lemmas.Slice.Eq.{bytes_eq-Decides}
use Rattle.std.specs.Bool.{Decides}
use Rattle.std.specs.Prelude.{not}
use Rattle.std.specs.List.{filter, flat_map}
use Rattle.serde_json.specs.Data.{Data}
use Rattle.serde_json.specs.View.{view}
use Rattle.strkw_pattern.specs.declared.engine.Outcome.{Outcome}
use Rattle.strkw_report.specs.declared.error.Site.{Site}
use Rattle.neldrafi_schema.specs.declared.node.Body.{Body}
use Rattle.neldrafi_schema.specs.declared.node.Body.TheVariants as body
use Rattle.neldrafi_schema.specs.declared.node.Keyword.{Keyword as CompiledKeyword}
use Rattle.neldrafi_schema.specs.declared.node.Keyword.TheVariants as keyword
use Rattle.neldrafi_schema.specs.declared.node.Ruled.{Ruled}
use Rattle.neldrafi_schema.specs.declared.node.Node.{Node}
use Rattle.neldrafi_schema.specs.declared.node.Part.{Part}
use Rattle.neldrafi_schema.specs.declared.node.Rule.{Rule as CompiledRule}
use Rattle.neldrafi_schema.specs.declared.node.Rule.TheVariants as compiled
use Rattle.neldrafi_schema.specs.declared.targets.Child.{Child as FoundChild}
use Rattle.neldrafi_schema.specs.Errors.{Kind}
use Rattle.neldrafi_schema.specs.Meaning.{AreLeft, AreUnevaluated, AreVerdicts, Below, BesideEvaluates, BodyEvaluates, Evaluates, Evaluating, KeywordEvaluates, OneOf, TargetEvaluates, root_site}
use Rattle.neldrafi_schema.specs.Paths.{Segment, key, place, document}
use Rattle.neldrafi_schema.specs.Refusals.{ends}
use Rattle.neldrafi_schema.specs.Rules.{Child, Target, applied, counts_nothing, is_of_part, kinds, left_kinds, on_each, part_of, reached, tested}
use Rattle.neldrafi_schema.specs.Schemas.{Branch, Keyword, Rule, Schema, keywords, rule, unevaluated}
use Rattle.neldrafi_schema.specs.machine.Compiled.{body_of, children_of, keyword_of, rule_of, schemas_of, step_of}
use Rattle.neldrafi_schema.specs.Annotations.{annotated}
use Rattle.neldrafi_schema.specs.machine.Annotated.{AreAnnotated}
use Rattle.neldrafi_schema.specs.machine.Left.{AreFindings, AreSpans, Takes, same_segment}
use Rattle.neldrafi_schema.proofs.Endings.{ends_inside, ends_some, schema_there}
use Rattle.neldrafi_schema.proofs.Spanning.{left_too}
use Rattle.neldrafi_schema.proofs.Taking.{left_filtered, left_none}

-- a rule that speaks of no children that are left
pub speaks_of_none : {E : Type 0} (outcome : E → List ℕ → Outcome) (r : CompiledRule E) → ((x : Part) → r ≡ compiled.Unevaluated x → ⊥) → part_of (rule_of outcome r) ≡ None
speaks_of_none outcome (compiled.Unevaluated x) never = absurd (never x refl)
speaks_of_none outcome other never = refl

none_on_each : (bs : List Branch) → flat_map (on_each []) bs ≡ []
none_on_each [] = refl
none_on_each (b ∷ bs) = none_on_each bs

module _ (schemas : List Schema) (below : Below) (beside : List Keyword) (word : List ℕ) (r : Rule) (bs : List Branch) (d : Data) where
  -- ---- what is found

  pub own_found : (site : Site) (found : List Kind) (ts : List Target) (vs : List Bool) → part_of r ≡ None → AreVerdicts below site word (tested r bs d) vs
      → found ≡ kinds beside word r d vs → ts ≡ applied beside r bs d vs → AreFindings schemas below beside (rule word r bs) d site found ts
  own_found site found ts vs none tests e f = (
    vs,
    [],
    tests,
    rw none refl,
    e ∙ sym (ap (λ o. kinds beside word r d vs ++ left_kinds o bs []) none ∙ append-nil (kinds beside word r d vs)),
    f ∙ sym (ap (λ us. applied beside r bs d vs ++ us) (none_on_each bs) ∙ append-nil (applied beside r bs d vs)),
  )

  pub some_spanned : counts_nothing r ≡ false → (vs : List Bool) (ts : List Target) → AreVerdicts below root_site word (tested r bs d) vs
      → ts ≡ reached beside r bs d vs → AreSpans below beside (rule word r bs) d ts
  some_spanned e vs ts tests same = (vs, tests, rw e same)

  pub own_annotated : (site : Site) (ts : List Target) (vs : List Bool) → part_of r ≡ None → AreVerdicts below site word (tested r bs d) vs
      → ts ≡ annotated beside r bs d vs → AreAnnotated schemas below beside (rule word r bs) d site ts
  own_annotated site ts vs none tests same = (
    vs,
    [],
    tests,
    rw none refl,
    same ∙ sym (ap (λ us. annotated beside r bs d vs ++ us) (none_on_each bs) ∙ append-nil (annotated beside r bs d vs)),
  )

  -- ---- what is taken

  pub beside_left : (cs l : List Child) → part_of r ≡ None → AreLeft (λ s. KeywordEvaluates below (Evaluates schemas below s (length schemas)) beside d s (rule word r bs)) cs l
      → AreLeft (λ s. BesideEvaluates schemas below beside d s (rule word r bs)) cs l
  beside_left cs l none = left_too (λ s. KeywordEvaluates below (Evaluates schemas below s (length schemas)) beside d s (rule word r bs))
      (λ s. BesideEvaluates schemas below beside d s (rule word r bs)) (λ s. ((λ p. (none, p)), (λ p. p.1))) cs l

  pub not_beside : (cs : List Child) (x : Part) → part_of r ≡ Some x → AreLeft (λ s. BesideEvaluates schemas below beside d s (rule word r bs)) cs cs
  not_beside cs x is = left_none (λ s. BesideEvaluates schemas below beside d s (rule word r bs)) (λ s p. speaks (part_of r) is p.0) cs where
    speaks : (o : Option Part) → o ≡ Some x → o ≡ None → ⊥
    speaks None e f = cc
    speaks (Some y) e f = cc

pub left_found : (schemas : List Schema) (below : Below) (beside : List Keyword) (word : List ℕ) (x : Part) (bs : List Branch) (d : Data) (site : Site) (found : List Kind) (ts : List Target)
    (left : List Child) → AreUnevaluated schemas below beside d (Some x) left → found ≡ left_kinds (Some x) bs left → ts ≡ flat_map (on_each left) bs
    → AreFindings schemas below beside (rule word (unevaluated x) bs) d site found ts
left_found schemas below beside word x bs d site found ts left rest e f = ([], left, refl, rest, e, f)

pub left_annotated : (schemas : List Schema) (below : Below) (beside : List Keyword) (word : List ℕ) (x : Part) (bs : List Branch) (d : Data) (site : Site) (ts : List Target)
    (left : List Child) → AreUnevaluated schemas below beside d (Some x) left → ts ≡ flat_map (on_each left) bs
    → AreAnnotated schemas below beside (rule word (unevaluated x) bs) d site ts
left_annotated schemas below beside word x bs d site ts left rest same = ([], left, refl, rest, same)

-- all of a part
pub part_left : (below : Below) (inner : Segment → Evaluating) (beside : List Keyword) (word : List ℕ) (x : Part) (bs : List Branch) (d : Data) (cs l : List Child)
    → AreLeft (λ s. is_of_part x s ≡ true) cs l → AreLeft (λ s. KeywordEvaluates below (inner s) beside d s (rule word (unevaluated x) bs)) cs l
part_left below inner beside word x bs d cs l = left_too (λ s. is_of_part x s ≡ true) (λ s. KeywordEvaluates below (inner s) beside d s (rule word (unevaluated x) bs))
    (λ s. (inl, back s)) cs l where
      back : (s : Segment) → KeywordEvaluates below (inner s) beside d s (rule word (unevaluated x) bs) → is_of_part x s ≡ true
      back s (inl e) = e
      back s (inr (vs, tests, p)) = absurd p

-- a keyword that is no rule evaluates nothing
module _ {E : Type 0} (outcome : E → List ℕ → Outcome) (below : Below) (beside : List Keyword) (d : Data) where
  abbrev NoRule : CompiledKeyword E → Type 0
  NoRule k = (r : Ruled E) → k ≡ keyword.Rule r → ⊥

  pub text_left : (inner : Segment → Evaluating) (k : CompiledKeyword E) → NoRule k → (cs : List Child)
      → AreLeft (λ s. KeywordEvaluates below (inner s) beside d s (keyword_of outcome k)) cs cs
  text_left inner (keyword.Rule r) other cs = absurd (other r refl)
  text_left inner (keyword.Text k v) other cs = left_none (λ s. ⊥) (λ s p. p) cs

  pub text_beside : (schemas : List Schema) (k : CompiledKeyword E) → NoRule k → (cs : List Child)
      → AreLeft (λ s. BesideEvaluates schemas below beside d s (keyword_of outcome k)) cs cs
  text_beside schemas (keyword.Rule r) other cs = absurd (other r refl)
  text_beside schemas (keyword.Text k v) other cs = left_none (λ s. ⊥) (λ s p. p) cs

-- a target inside the instance, or the instance
module _ (inner : Segment → Evaluating) (t : Target) (cs l : List Child) where
  pub inside_left : (x : Segment) → t.inside ≡ x ∷ [] → AreLeft (λ s. x ≡ s) cs l → AreLeft (λ s. TargetEvaluates (inner s) s t) cs l
  inside_left x is = left_too (λ s. x ≡ s) (λ s. TargetEvaluates (inner s) s t) (λ s. ((λ e. inl (is ∙ ap (λ y. y ∷ []) e)), back s)) cs l where
    first : (s : Segment) → x ∷ [] ≡ s ∷ [] → x ≡ s
    first s e = cc

    some : x ∷ [] ≡ [] → ⊥
    some e = cc

    back : (s : Segment) → TargetEvaluates (inner s) s t → x ≡ s
    back s (inl e) = first s (sym is ∙ e)
    back s (inr p) = absurd (some (sym is ∙ p.0))

  pub itself_left : (d : Data) → t.inside ≡ [] → t.value ≡ d → AreLeft (λ s. inner s t.schema d) cs l → AreLeft (λ s. TargetEvaluates (inner s) s t) cs l
  itself_left d is same = left_too (λ s. inner s t.schema d) (λ s. TargetEvaluates (inner s) s t)
      (λ s. ((λ p. inr (is, subst (inner s t.schema) (sym same) p)), back s)) cs l where
        some : (s : Segment) → s ∷ [] ≡ [] → ⊥
        some s e = cc

        back : (s : Segment) → TargetEvaluates (inner s) s t → inner s t.schema d
        back s (inl e) = absurd (some s (sym e ∙ is))
        back s (inr p) = subst (inner s t.schema) same p.1

-- ---- what a test keeps

same_segment_Decides : (a b : Segment) → Decides (same_segment a b) (a ≡ b)
same_segment_Decides (key a) (key b) = ((λ e. ap key ((bytes_eq-Decides a b).0 e)), (λ e. (bytes_eq-Decides a b).1 (names e))) where
  names : key a ≡ key b → a ≡ b
  names e = cc
same_segment_Decides (place m) (place n) = ((λ e. ap place ((Decides-eqb m n).0 e)), (λ e. (Decides-eqb m n).1 (places e))) where
  places : place m ≡ place n → m ≡ n
  places e = cc
same_segment_Decides (document m) (document n) = ((λ e. ap document ((Decides-eqb m n).0 e)), (λ e. (Decides-eqb m n).1 (numbers e))) where
  numbers : document m ≡ document n → m ≡ n
  numbers e = cc
same_segment_Decides a b = ((λ e. absurd (false≢true e)), (λ e. cc))

not_true : (b : Bool) → not b ≡ true → b ≡ false
not_true true e = absurd (false≢true e)
not_true false e = refl

not_false : (b : Bool) → not b ≡ false → b ≡ true
not_false true e = refl
not_false false e = absurd (false≢true (sym e))

-- those that are not at a segment, and those that are not of a part
abbrev child_of : FoundChild → Child
child_of x = (step_of x.step, view x.value.now)

one_kept : (b : Bool) (x : FoundChild) (xs : List FoundChild) (cs : List Child) → children_of xs ≡ cs → children_of (cond b (x ∷ xs) xs) ≡ cond b (child_of x ∷ cs) cs
one_kept true x xs cs e = ap (λ l. child_of x ∷ l) e
one_kept false x xs cs e = e

kept : (of : Segment → Bool) (xs : List FoundChild) → children_of (filter (λ x. not (of (step_of x.step))) xs) ≡ filter (λ c. not (of c.0)) (children_of xs)
kept of [] = refl
kept of (x ∷ xs) = one_kept (not (of (step_of x.step))) x (filter (λ x. not (of (step_of x.step))) xs) (filter (λ c. not (of c.0)) (children_of xs)) (kept of xs)

pub taken_at : (s : Segment) (old new : List FoundChild) → new ≡ filter (λ x. not (same_segment (step_of x.step) s)) old → Takes (λ x. s ≡ x) old new
taken_at s old new e = rw (e, kept (λ x. same_segment x s) old) (left_filtered (λ x. s ≡ x) (λ c. not (same_segment c.0 s))
    (λ c is same. false≢true (sym (not_true (same_segment c.0 s) is) ∙ (same_segment_Decides c.0 s).1 (sym same)))
    (λ c is. sym ((same_segment_Decides c.0 s).0 (not_false (same_segment c.0 s) is))) (children_of old))

pub taken_part : (x : Part) (old new : List FoundChild) → new ≡ filter (λ c. not (is_of_part x (step_of c.step))) old → Takes (λ s. is_of_part x s ≡ true) old new
taken_part x old new e = rw (e, kept (is_of_part x) old) (left_filtered (λ s. is_of_part x s ≡ true) (λ c. not (is_of_part x c.0))
    (λ c is of. false≢true (sym (not_true (is_of_part x c.0) is) ∙ of)) (λ c is. not_false (is_of_part x c.0) is) (children_of old))

-- ---- by the schema of a node

module _ {E : Type 0} (outcome : E → List ℕ → Outcome) (nodes : List (Node E)) (below : Below) (n steps : ℕ) (node : Node E) (is : node ≡ get_or nodes n node)
    (end : ends (schemas_of outcome nodes) steps n ≡ true) (d : Data) where
  evaluates_there : (j : ℕ) (s : Segment) → Evaluates (schemas_of outcome nodes) below s (suc j) n d
      ≡ BodyEvaluates below (Evaluates (schemas_of outcome nodes) below s j) d s (body_of outcome node.body)
  unfolding Evaluates
  evaluates_there j s = rw (schema_there outcome nodes n node (ends_inside outcome nodes steps n end) is) refl

  pub body_left : (j : ℕ) → steps ≤ j → (cs l : List Child)
      → ((i : ℕ) → steps - 1 ≤ i → AreLeft (λ s. BodyEvaluates below (Evaluates (schemas_of outcome nodes) below s i) d s (body_of outcome node.body)) cs l)
      → AreLeft (λ s. Evaluates (schemas_of outcome nodes) below s j n d) cs l
  body_left zero h cs l so = absurd (omega (arith, ends_some (schemas_of outcome nodes) steps n end))
  body_left (suc i) h cs l so = left_too (λ s. BodyEvaluates below (Evaluates (schemas_of outcome nodes) below s i) d s (body_of outcome node.body))
      (λ s. Evaluates (schemas_of outcome nodes) below s (suc i) n d)
      (λ s. let same = evaluates_there i s in ((λ p. subst (λ X. X) (sym same) p), (λ p. subst (λ X. X) same p))) cs l (so i (omega arith))

  none_of_body : ((ks : Vec (CompiledKeyword E) Global) → (get_or nodes n node).body ≡ body.Keywords ks → ⊥) → (inner : Evaluating) (s : Segment)
      → BodyEvaluates below inner d s (body_of outcome (get_or nodes n node).body) → ⊥
  none_of_body other inner s = by (get_or nodes n node).body other where
    by : (b : Body E) → ((ks : Vec (CompiledKeyword E) Global) → b ≡ body.Keywords ks → ⊥) → BodyEvaluates below inner d s (body_of outcome b) → ⊥
    by body.Always without p = p
    by body.Never without p = p
    by (body.Keywords ks) without p = absurd (without ks refl)

  pub no_keywords_left : ((ks : Vec (CompiledKeyword E) Global) → (get_or nodes n node).body ≡ body.Keywords ks → ⊥) → (j : ℕ) → steps ≤ j → (cs : List Child)
      → AreLeft (λ s. Evaluates (schemas_of outcome nodes) below s j n d) cs cs
  no_keywords_left other j h cs = body_left j h cs cs (λ i more. left_none (λ s. BodyEvaluates below (Evaluates (schemas_of outcome nodes) below s i) d s (body_of outcome node.body))
      (λ s p. none_of_body other (Evaluates (schemas_of outcome nodes) below s i) s
      (subst (λ b. BodyEvaluates below (Evaluates (schemas_of outcome nodes) below s i) d s (body_of outcome b)) (ap (λ t. t.body) is) p)) cs)

  pub keywords_left : (ks : List Keyword) → body_of outcome node.body ≡ keywords ks → (j : ℕ) → steps ≤ j → (cs l : List Child)
      → ((i : ℕ) → steps - 1 ≤ i → AreLeft (λ s. OneOf (KeywordEvaluates below (Evaluates (schemas_of outcome nodes) below s i) ks d s) ks) cs l)
      → AreLeft (λ s. Evaluates (schemas_of outcome nodes) below s j n d) cs l
  keywords_left ks e j h cs l so = body_left j h cs l (λ i more.
      subst (λ b. AreLeft (λ s. BodyEvaluates below (Evaluates (schemas_of outcome nodes) below s i) d s b) cs l) (sym e) (so i more))
