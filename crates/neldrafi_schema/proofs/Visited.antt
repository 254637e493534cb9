-- What the walk over an instance answers: keyword by keyword, and target by target.
use Rattle.std.proofs.Common.{◌≡◌, ◌↔◌, ◌∙◌, ℕ, ◌<◌, ◌≤◌, List, [], ◌∷◌, ◌++◌, map, refl, sym, ap, subst, arith, le_refl, Bool, true, false, IsTrue}
use Rattle.std.proofs.lemmas.Bool.{false≢true}
use Rattle.std.specs.Prelude.{if◌then◌else◌}
use Rattle.std.specs.List.{AllByRecursion, flat_map, list_all}
use Rattle.serde_json.specs.Data.{Data, depth}
use Rattle.strkw_report.specs.declared.error.Site.{Site}
use Rattle.strkw_keywords.specs.Meanings.{Lists}
use Rattle.neldrafi_schema.specs.Errors.{Kind}
use Rattle.neldrafi_schema.specs.Schemas.{Branch, Keyword, Rule, Schema, rule}
use Rattle.neldrafi_schema.specs.Rules.{Child, Target, applied, kinds, left_kinds, on_each, part_of, tested}
use Rattle.neldrafi_schema.specs.Meaning.{AreVerdicts, Below, EachReports, KeywordReports, KeywordsReport, error_of, site_of}
use Rattle.neldrafi_schema.specs.Refusals.{ends, in_place, is_in_place, schemas_in}
use Rattle.neldrafi_schema.specs.Annotations.{annotated}
use Rattle.neldrafi_schema.specs.machine.Annotated.{AreAnnotated}
use Rattle.neldrafi_schema.specs.machine.Left.{AreFindings}
use Rattle.neldrafi_schema.specs.machine.Ready.{steps_for}
use Rattle.neldrafi_schema.proofs.Depth.{fewer_steps}
use Rattle.neldrafi_schema.proofs.Determined.{verdicts_same}
use Rattle.neldrafi_schema.proofs.Spanning.{unevaluated_fine, unevaluated_same}
use Rattle.neldrafi_schema.proofs.Fitting.{and_left, and_right, enters_instance}
use Rattle.neldrafi_schema.proofs.Lists.{nil_left, nil_right}
use Rattle.neldrafi_schema.proofs.Within.{Deep, Hold, annotated_hold, applied_hold, both_hold, left_hold, tested_hold}
use Rattle.neldrafi_schema.specs.Schemas.{Header}

pub holds : (X : Type 0) (b : Bool) → b ≡ true → X → IsTrue b ↔ X
holds X b e x = (λ t. x, λ y. e)

-- where something would make a test hold that does not, it is not so
pub refutes : (X : Type 0) (b : Bool) → b ≡ false → (X → IsTrue b) → IsTrue false ↔ X
refutes X b e so = (λ t. absurd (false≢true t), λ x. sym e ∙ so x)

pub nothing_mapped : {A B : Type 0} (f : A → B) (xs : List A) → map f xs ≡ [] → xs ≡ []
nothing_mapped f [] e = refl
nothing_mapped f (x ∷ xs) e = cc

-- ---- one after the other, where the first reports nothing

module _ (schemas : List Schema) (below : Below) (lists : Lists) (header : Header) (beside : List Keyword) (d : Data) (site : Site) (k : Keyword) (ks : List Keyword) where
  pub keyword_first : KeywordsReport schemas below lists header beside (k ∷ ks) d site [] → KeywordReports schemas below lists header beside k d site []
  keyword_first (a, b, p, q, e) = subst (λ es. KeywordReports schemas below lists header beside k d site es) (nil_left a b e) p

  pub keyword_passed : KeywordReports schemas below lists header beside k d site []
      → KeywordsReport schemas below lists header beside (k ∷ ks) d site [] ↔ KeywordsReport schemas below lists header beside ks d site []
  keyword_passed p = (λ (a, b, o, q, e). subst (λ es. KeywordsReport schemas below lists header beside ks d site es) (nil_right a b e) q, λ q. ([], [], p, q, refl))

module _ (below : Below) (site : Site) (word : List ℕ) (t : Target) (ts : List Target) where
  pub target_first : EachReports below site word (t ∷ ts) [] → below t.schema t.value (site_of site word t) []
  target_first (a, b, p, q, e) = subst (below t.schema t.value (site_of site word t)) (nil_left a b e) p

  pub target_passed : below t.schema t.value (site_of site word t) [] → EachReports below site word (t ∷ ts) [] ↔ EachReports below site word ts []
  target_passed p = (λ (a, b, o, q, e). subst (λ es. EachReports below site word ts es) (nil_right a b e) q, λ q. ([], [], p, q, refl))

  -- the verdicts on the rest, and that on the first
  pub verdict_first : (b : Bool) (vs : List Bool) → (IsTrue b ↔ below t.schema t.value (site_of site word t) []) → AreVerdicts below site word ts vs
      → AreVerdicts below site word (t ∷ ts) (b ∷ vs)
  verdict_first b vs p q = (b, vs, p, q, refl)

-- ---- a rule, by what is found

module _ (schemas : List Schema) (below : Below) (lists : Lists) (header : Header) (beside : List Keyword) (word : List ℕ) (r : Rule) (bs : List Branch) (d : Data)
    (site : Site) (found : List Kind) (ts : List Target) where
  abbrev Found : Type 0
  Found = AreFindings schemas below beside (rule word r bs) d site found ts

  abbrev Reported : Type 0
  Reported = KeywordReports schemas below lists header beside (rule word r bs) d site []

  abbrev own : List Bool → List Child → List Kind
  own us cs = kinds beside word r d us ++ left_kinds (part_of r) bs cs

  pub rule_passes : Found → found ≡ [] → EachReports below site word ts [] → Reported
  rule_passes (vs, left, tests, rest, e, same) none p = (
    vs,
    left,
    [],
    tests,
    rest,
    subst (λ us. EachReports below site word us []) same p,
    sym (ap (λ l. map (error_of header site word d) l ++ []) (sym e ∙ none)),
  )

  pub no_kinds : Found → Reported → found ≡ []
  no_kinds (vs, left, tests, rest, e, same) (ws, l, later, w, u, p, x) =
      let one : vs ≡ ws = verdicts_same below site word (tested r bs d) vs ws tests w in
      let other : left ≡ l = unevaluated_same schemas below beside d (part_of r) left l rest u in
      e ∙ ap (λ us. own us left) one ∙ ap (own ws) other
      ∙ nothing_mapped (error_of header site word d) (own ws l) (nil_left (map (error_of header site word d) (own ws l)) later x)

  pub no_targets : Found → Reported → EachReports below site word ts []
  no_targets (vs, left, tests, rest, e, same) (ws, l, later, w, u, p, x) =
      let one : ws ≡ vs = verdicts_same below site word (tested r bs d) ws vs w tests in
      let other : l ≡ left = unevaluated_same schemas below beside d (part_of r) l left u rest in
      let none : EachReports below site word (applied beside r bs d ws ++ flat_map (on_each l) bs) [] =
      subst (λ es. EachReports below site word (applied beside r bs d ws ++ flat_map (on_each l) bs) es)
      (nil_right (map (error_of header site word d) (own ws l)) later x) p in
      subst (λ us. EachReports below site word us []) (sym same)
      (subst (λ cs. EachReports below site word (applied beside r bs d vs ++ flat_map (on_each cs) bs) []) other
      (subst (λ us. EachReports below site word (applied beside r bs d us ++ flat_map (on_each l) bs) []) one none))

-- ---- the steps that are left

-- what is tested and applied ends within the steps that are left, and takes no more of them than the keyword
module _ (schemas : List Schema) (count : ℕ) (word : List ℕ) (r : Rule) (bs : List Branch) (d : Data) (steps left : ℕ) where
  abbrev pub IsNext : ℕ → Data → Type 0
  IsNext n v = (ends schemas left n ≡ true) × (steps_for count v left ≤ steps_for count d steps)

  module _ (inside : AllByRecursion (λ b. b.schema < count) bs) (end : (n : ℕ) → n < count → ends schemas count n ≡ true)
      (here : list_all (ends schemas steps) (in_place (rule word r bs)) ≡ true) (is : left ≡ (if is_in_place r then steps else count)) where
    each_here : (cs : List Branch) → list_all (ends schemas steps) (schemas_in cs) ≡ true → left ≡ steps → AllByRecursion (λ b. IsNext b.schema d) cs
    each_here [] e same = tt
    each_here (b ∷ cs) e same =
        ((rw same (and_left _ _ e), rw same (le_refl (steps_for count d steps))), each_here cs (and_right (ends schemas steps b.schema) _ e) same)

    next_here : is_in_place r ≡ true → AllByRecursion (λ b. IsNext b.schema d) bs
    next_here h = each_here bs (rw h at here) (rw h at is)

    each_below : (cs : List Branch) → AllByRecursion (λ b. b.schema < count) cs → left ≡ count → AllByRecursion (Deep IsNext d) cs
    each_below [] all same = tt
    each_below (b ∷ cs) all same =
        ((λ v less. (rw same (end b.schema all.0), rw same (omega (arith, fewer_steps count (depth v) (depth d) steps less)))), each_below cs all.1 same)

    next_below : is_in_place r ≡ false → AllByRecursion (Deep IsNext d) bs
    next_below h = each_below bs inside (rw h at is)

    pub tested_next : Hold IsNext (tested r bs d)
    tested_next = tested_hold IsNext d r bs next_here next_below

    applied_next : (beside : List Keyword) (vs : List Bool) → Hold IsNext (applied beside r bs d vs)
    applied_next beside vs = applied_hold IsNext d beside r bs vs next_here next_below

    pub annotated_next : (below : Below) (beside : List Keyword) (site : Site) (ts : List Target)
        → AreAnnotated schemas below beside (rule word r bs) d site ts → Hold IsNext ts
    annotated_next below beside site ts (vs, left, tests, rest, same) = subst (Hold IsNext) (sym same)
        (both_hold IsNext (annotated beside r bs d vs) (flat_map (on_each left) bs)
        (annotated_hold IsNext d beside r bs vs tested_next (applied_next beside vs))
        (unevaluated_fine schemas below IsNext beside d (part_of r) bs left rest
        (λ x is cs less. left_hold IsNext d cs bs less (next_below (enters_instance r x is)))))

    pub found_next : (below : Below) (beside : List Keyword) (site : Site) (found : List Kind) (ts : List Target)
        → AreFindings schemas below beside (rule word r bs) d site found ts → Hold IsNext ts
    found_next below beside site found ts (vs, left, tests, rest, e, same) = subst (Hold IsNext) (sym same)
        (both_hold IsNext (applied beside r bs d vs) (flat_map (on_each left) bs) (applied_next beside vs)
        (unevaluated_fine schemas below IsNext beside d (part_of r) bs left rest
        (λ x is cs less. left_hold IsNext d cs bs less (next_below (enters_instance r x is)))))
