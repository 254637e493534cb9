-- What rules report by what is found of their schemas, without lists.
use Rattle.std.proofs.Common.{◌≡◌, ◌↔◌, ◌++◌, ◌∷◌, ◌∙◌, ℕ, ap, append-nil, List, [], drop, map, Bool, true, false, Option, None, refl, subst, sym, IsTrue}
use Rattle.std.proofs.lemmas.Bool.{false≢true}
use Rattle.std.specs.Prelude.{is_some, not, ◌||◌}
use Rattle.std.specs.List.{filter, flat_map}
use Rattle.serde_json.specs.Data.{Data}
use Rattle.serde_json.specs.Find.{as_array}
use Rattle.strkw_report.specs.declared.error.Site.{Site}
use Rattle.strkw_keywords.specs.Meanings.{Lists}
use Rattle.strkw_keywords.specs.Errors.{Assertion}
use Rattle.neldrafi_schema.specs.Errors.{Kind, none_contained, unexpected_items, unexpected_members}
use Rattle.neldrafi_schema.specs.Meaning.{AreVerdicts, Below, EachReports, KeywordReports, error_of}
use Rattle.neldrafi_schema.specs.Rules.{Child, applied, count_of, is_between, is_present, kinds, left_kinds, missing_beside, none_allowed, on_items, on_itself, on_matched, on_members, other_items_in, other_members_in, part_of, placed_count, placed_items, tested, unless}
use Rattle.neldrafi_schema.specs.Schemas.{Branch, Dependency, Keyword, Rule, Schema, rule, reference, all_of, negation, any_of, one_of, condition, matching, other_members, no_other_members, no_other_items, contains, dependent, Header}
use Rattle.neldrafi_schema.specs.machine.Counted.{AreCounted, AreItemsCounted, IsCounting, is_counting}
use Rattle.neldrafi_schema.specs.machine.Left.{AreFindings}
use Rattle.neldrafi_schema.proofs.Lists.{nil_left}
use Rattle.neldrafi_schema.proofs.Plain.{leads_report}
use Rattle.neldrafi_schema.proofs.Taken.{own_found}
use Rattle.neldrafi_schema.proofs.Visited.{nothing_mapped, rule_passes}

module _ (schemas : List Schema) (below : Below) (lists : Lists) (header : Header) (beside : List Keyword) (word : List ℕ) (bs : List Branch) (d : Data) (site : Site) (b : Bool) where
  abbrev Reported : Rule → Type 0
  Reported r = KeywordReports schemas below lists header beside (rule word r bs) d site []

  -- ---- a rule that leads nowhere reports by its verdicts

  abbrev IsByVerdicts : Rule → (List Bool → Type 0) → Type 0
  IsByVerdicts r P = (vs : List Bool) × AreVerdicts below site word (tested r bs d) vs × P vs

  pub tests_report : (r : Rule) → part_of r ≡ None → ((vs : List Bool) → applied beside r bs d vs ≡ []) → (P : List Bool → Type 0)
      → ((vs : List Bool) → (kinds beside word r d vs ≡ []) ↔ P vs) → IsTrue b ↔ IsByVerdicts r P → IsTrue b ↔ Reported r
  tests_report r none leads P means says = (
    λ t. let (vs, tests, p) = says.0 t in
        let found : AreFindings schemas below beside (rule word r bs) d site [] [] = own_found schemas below beside word r bs d site [] [] vs none tests (sym ((means vs).1 p)) (sym (leads vs)) in
        rule_passes schemas below lists header beside word r bs d site [] [] found refl refl,
    λ (ws, l, later, w, u, p, x). says.1 (ws, w, (means ws).0 (none_itself ws l later x)),
  ) where
    none_itself : (ws : List Bool) (l : List Child) (later : List _) → [] ≡ map (error_of header site word d) (kinds beside word r d ws ++ left_kinds (part_of r) bs l) ++ later
        → kinds beside word r d ws ≡ []
    none_itself ws l later x =
        let all = kinds beside word r d ws ++ left_kinds (part_of r) bs l in
        nil_left (kinds beside word r d ws) (left_kinds (part_of r) bs l)
        (sym (nothing_mapped (error_of header site word d) all (nil_left (map (error_of header site word d) all) later x)))

  -- ---- schemas of the instance itself

  pub reference_report : IsTrue b ↔ EachReports below site word (on_itself d bs) [] → IsTrue b ↔ Reported reference
  reference_report = leads_report schemas below lists header beside word bs d site b reference (on_itself d bs)
      (own_found schemas below beside word reference bs d site [] (on_itself d bs) [] refl refl refl refl)

  pub all_of_report : IsTrue b ↔ EachReports below site word (on_itself d bs) [] → IsTrue b ↔ Reported all_of
  all_of_report = leads_report schemas below lists header beside word bs d site b all_of (on_itself d bs)
      (own_found schemas below beside word all_of bs d site [] (on_itself d bs) [] refl refl refl refl)

  record OnItself (r : Rule) : Type 0 where
    tests : tested r bs d ≡ on_itself d bs
    leads : (vs : List Bool) → applied beside r bs d vs ≡ []
    speaks : part_of r ≡ None

  counting_on_itself : (r : Rule) → is_counting r ≡ true → OnItself r
  counting_on_itself (negation schema) e = record { tests = refl; leads = λ vs. refl; speaks = refl }
  counting_on_itself any_of e = record { tests = refl; leads = λ vs. refl; speaks = refl }
  counting_on_itself one_of e = record { tests = refl; leads = λ vs. refl; speaks = refl }
  counting_on_itself condition e = record { tests = refl; leads = λ vs. refl; speaks = refl }
  counting_on_itself other e = absurd (false≢true e)

  pub counting_report : (r : Rule) (least : ℕ) (most : Option ℕ) → IsCounting r least most → IsTrue b ↔ AreCounted below site word (on_itself d bs) least most
      → IsTrue b ↔ Reported r
  counting_report r least most (counts, means) says =
      let here = counting_on_itself r counts in
      tests_report r here.speaks here.leads (λ vs. is_between least most (count_of vs) ≡ true) (means beside word d)
      (subst (λ ts. IsTrue b ↔ ((vs : List Bool) × AreVerdicts below site word ts vs × (is_between least most (count_of vs) ≡ true))) (sym here.tests) says)

  -- ---- members and items

  pub other_members_report : IsTrue b ↔ EachReports below site word (flat_map (on_members (other_members_in beside d)) bs) [] → IsTrue b ↔ Reported other_members
  other_members_report = let ts = flat_map (on_members (other_members_in beside d)) bs in
      leads_report schemas below lists header beside word bs d site b other_members ts (own_found schemas below beside word other_members bs d site [] ts [] refl refl refl refl)

  pub matching_report : (patterns : List (List Assertion)) → IsTrue b ↔ EachReports below site word (on_matched d patterns bs) [] → IsTrue b ↔ Reported (matching patterns)
  matching_report patterns = let ts = on_matched d patterns bs in
      leads_report schemas below lists header beside word bs d site b (matching patterns) ts (own_found schemas below beside word (matching patterns) bs d site [] ts [] refl refl refl refl)

  nothing_tested : (P : Type 0) → IsTrue b ↔ P → IsTrue b ↔ ((vs : List Bool) × (vs ≡ []) × P)
  nothing_tested P says = (λ t. ([], refl, says.0 t), λ (vs, e, p). says.1 p)

  none_is_allowed : {A B : Type 0} (kind : List B → Kind) (f : A → B) (xs : List A) → (none_allowed kind (map f xs) ≡ []) ↔ (xs ≡ [])
  none_is_allowed kind f [] = (λ e. refl, λ e. refl)
  none_is_allowed kind f (x ∷ xs) = (λ e. cc, λ e. cc)

  pub no_other_members_report : IsTrue b ↔ (other_members_in beside d ≡ []) → IsTrue b ↔ Reported no_other_members
  no_other_members_report says = tests_report no_other_members refl (λ vs. refl) (λ vs. other_members_in beside d ≡ [])
      (λ vs. none_is_allowed unexpected_members (λ m. m.0) (other_members_in beside d)) (nothing_tested (other_members_in beside d ≡ []) says)

  pub no_other_items_report : (from : ℕ) → from ≡ placed_count beside → IsTrue b ↔ (drop from (placed_items d) ≡ []) → IsTrue b ↔ Reported no_other_items
  no_other_items_report from is says = tests_report no_other_items refl (λ vs. refl) (λ vs. other_items_in beside d ≡ [])
      (λ vs. none_is_allowed unexpected_items (λ i. i.1) (other_items_in beside d))
      (nothing_tested (other_items_in beside d ≡ []) (subst (λ n. IsTrue b ↔ (drop n (placed_items d) ≡ [])) is says))

  -- ---- `contains` and `dependencies`

  unless_means : (c : Bool) (kind : Kind) → (unless c kind ≡ []) ↔ (c ≡ true)
  unless_means true kind = (λ e. refl, λ e. refl)
  unless_means false kind = (λ e. cc, λ e. absurd (false≢true e))

  pub contains_report : (only : Branch) (least : ℕ) (most : Option ℕ) (counts : Bool) → bs ≡ only ∷ [] → IsTrue b ↔ AreItemsCounted below site word d only least most
      → IsTrue b ↔ Reported (contains least most counts)
  contains_report only least most counts is says =
      let P = λ (vs : List Bool). (not (is_some (as_array d)) || is_between least most (count_of vs)) ≡ true in
      let same : on_items (placed_items d) only ≡ flat_map (on_items (placed_items d)) bs =
      sym (append-nil (on_items (placed_items d) only)) ∙ ap (λ l. flat_map (on_items (placed_items d)) l) (sym is) in
      tests_report (contains least most counts) refl (λ vs. refl) P (λ vs. unless_means (not (is_some (as_array d)) || is_between least most (count_of vs)) none_contained)
      (subst (λ ts. IsTrue b ↔ ((vs : List Bool) × AreVerdicts below site word ts vs × P vs)) same says)

  pub dependent_report : (ds : List Dependency) → flat_map (missing_beside d) ds ≡ [] → IsTrue b ↔ EachReports below site word (on_itself d (filter (is_present d) bs)) []
      → IsTrue b ↔ Reported (dependent ds)
  dependent_report ds none = let ts = on_itself d (filter (is_present d) bs) in
      leads_report schemas below lists header beside word bs d site b (dependent ds) ts
      (own_found schemas below beside word (dependent ds) bs d site [] ts [] refl refl (sym none) refl)

  pub dependent_stops : (ds : List Dependency) → Reported (dependent ds) → flat_map (missing_beside d) ds ≡ []
  dependent_stops ds (ws, l, later, w, u, p, x) =
      let all = flat_map (missing_beside d) ds ++ left_kinds None bs l in
      nil_left (flat_map (missing_beside d) ds) (left_kinds None bs l)
      (sym (nothing_mapped (error_of header site word d) all (nil_left (map (error_of header site word d) all) later x)))
