-- Rules that lead to no schema and look at no rule beside.
use Rattle.std.proofs.Common.{◌≡◌, ◌↔◌, ◌<◌, ◌+◌, ◌++◌, ◌∷◌, ◌∙◌, ℕ, List, [], drop, get_or, length, map, Bool, true, false, Option, None, Some, refl, subst, sym, IsTrue}
use Rattle.std.specs.List.{flat_map}
use Rattle.std.proofs.lemmas.Bool.{false≢true}
use Rattle.serde_json.specs.Data.{Data}
use Rattle.strkw_report.specs.declared.error.Site.{Site}
use Rattle.strkw_keywords.specs.Meanings.{Lists}
use Rattle.neldrafi_schema.specs.Schemas.{Branch, Keyword, Rule, Schema, rule, types, among, equal_to, limited, multiple_of, sized, distinct, required, properties, placed, other_items, Header}
use Rattle.neldrafi_schema.specs.Rules.{Target, applied, child_at, kinds, on_child, on_items, option_list, part_of, path_of, placed_count, placed_items, target, tested}
use Rattle.neldrafi_schema.specs.Meaning.{Below, EachReports, KeywordReports}
use Rattle.neldrafi_schema.specs.machine.Left.{AreFindings}
use Rattle.neldrafi_schema.specs.machine.Single.{IsPlainVerdict, is_plain}
use Rattle.neldrafi_schema.specs.declared.node.Branch.{Branch as CompiledBranch}
use Rattle.neldrafi_schema.specs.machine.Compiled.{branch_of, branches_of}
use Rattle.neldrafi_schema.proofs.Lists.{drop_one}
use Rattle.neldrafi_schema.proofs.Taken.{own_found}
use Rattle.neldrafi_schema.proofs.Visited.{no_kinds, no_targets, rule_passes, target_first, target_passed}

-- such a rule tests nothing, leads nowhere, and speaks of no part
record LeadsNowhere (beside : List Keyword) (r : Rule) (bs : List Branch) (d : Data) : Type 0 where
  tests : tested r bs d ≡ []
  leads : applied beside r bs d [] ≡ []
  speaks : part_of r ≡ None

module _ (beside : List Keyword) (bs : List Branch) (d : Data) where
  plain_leads_nowhere : (r : Rule) → is_plain r ≡ true → LeadsNowhere beside r bs d
  plain_leads_nowhere (types floats ts) e = record { tests = refl; leads = refl; speaks = refl }
  plain_leads_nowhere (among ds) e = record { tests = refl; leads = refl; speaks = refl }
  plain_leads_nowhere (equal_to v) e = record { tests = refl; leads = refl; speaks = refl }
  plain_leads_nowhere (limited l m) e = record { tests = refl; leads = refl; speaks = refl }
  plain_leads_nowhere (multiple_of m) e = record { tests = refl; leads = refl; speaks = refl }
  plain_leads_nowhere (sized s n) e = record { tests = refl; leads = refl; speaks = refl }
  plain_leads_nowhere distinct e = record { tests = refl; leads = refl; speaks = refl }
  plain_leads_nowhere (required names) e = record { tests = refl; leads = refl; speaks = refl }
  plain_leads_nowhere other e = absurd (false≢true e)

-- what it reports is what it reports itself
pub plain_reports : (schemas : List Schema) (below : Below) (lists : Lists) (header : Header) (beside : List Keyword) (word : List ℕ) (r : Rule) (bs : List Branch) (d : Data) (site : Site)
    (b : Bool) → IsPlainVerdict r d b → IsTrue b ↔ KeywordReports schemas below lists header beside (rule word r bs) d site []
plain_reports schemas below lists header beside word r bs d site b (plain, verdict) =
    let nowhere = plain_leads_nowhere beside bs d r plain in
    let found : AreFindings schemas below beside (rule word r bs) d site (kinds beside word r d []) [] =
    own_found schemas below beside word r bs d site (kinds beside word r d []) [] [] nowhere.speaks (rw nowhere.tests refl) refl (sym nowhere.leads) in (
      λ t. rule_passes schemas below lists header beside word r bs d site (kinds beside word r d []) [] found ((verdict beside word).0 t) refl,
      λ reported. (verdict beside word).1 (no_kinds schemas below lists header beside word r bs d site (kinds beside word r d []) [] found reported),
    )

-- a rule that tests nothing and reports nothing itself reports what it leads to
module _ (schemas : List Schema) (below : Below) (lists : Lists) (header : Header) (beside : List Keyword) (word : List ℕ) (bs : List Branch) (d : Data) (site : Site) (b : Bool) where
  pub leads_report : (r : Rule) (ts : List Target) → AreFindings schemas below beside (rule word r bs) d site [] ts → IsTrue b ↔ EachReports below site word ts []
      → IsTrue b ↔ KeywordReports schemas below lists header beside (rule word r bs) d site []
  leads_report r ts found says = (
    λ t. rule_passes schemas below lists header beside word r bs d site [] ts found refl (says.0 t),
    λ reported. says.1 (no_targets schemas below lists header beside word r bs d site [] ts found reported),
  )

  pub properties_report : IsTrue b ↔ EachReports below site word (flat_map (on_child d) bs) []
      → IsTrue b ↔ KeywordReports schemas below lists header beside (rule word properties bs) d site []
  properties_report = leads_report properties (flat_map (on_child d) bs) (own_found schemas below beside word properties bs d site [] (flat_map (on_child d) bs) [] refl refl refl refl)

  pub placed_report : IsTrue b ↔ EachReports below site word (flat_map (on_child d) bs) []
      → IsTrue b ↔ KeywordReports schemas below lists header beside (rule word placed bs) d site []
  placed_report = leads_report placed (flat_map (on_child d) bs) (own_found schemas below beside word placed bs d site [] (flat_map (on_child d) bs) [] refl refl refl refl)

  pub other_items_report : (from : ℕ) → from ≡ placed_count beside → IsTrue b ↔ EachReports below site word (flat_map (on_items (drop from (placed_items d))) bs) []
      → IsTrue b ↔ KeywordReports schemas below lists header beside (rule word other_items bs) d site []
  other_items_report from is says = let ts = flat_map (on_items (drop (placed_count beside) (placed_items d))) bs in
      leads_report other_items ts (own_found schemas below beside word other_items bs d site [] ts [] refl refl refl refl)
      (subst (λ n. IsTrue b ↔ EachReports below site word (flat_map (on_items (drop n (placed_items d))) bs) []) is says)

-- ---- child by child

pub none_by : {A : Type 0} (o : Option A) → ((a : A) → o ≡ Some a → ⊥) → o ≡ None
none_by None never = refl
none_by (Some a) never = absurd (never a refl)

module _ (below : Below) (site : Site) (word : List ℕ) (d : Data) (items : List CompiledBranch) (i : ℕ) (b : CompiledBranch) (inside : i < length items) (at : b ≡ get_or items i b) where
  abbrev pub AllChildren : List CompiledBranch → Type 0
  AllChildren left = EachReports below site word (flat_map (on_child d) (branches_of items)) [] ↔ EachReports below site word (flat_map (on_child d) (branches_of left)) []

  abbrev rest : List Target
  rest = flat_map (on_child d) (branches_of (drop (i + 1) items))

  -- those of the branch, and those behind it
  here : AllChildren (drop i items) → EachReports below site word (flat_map (on_child d) (branches_of items)) [] ↔ EachReports below site word (on_child d (branch_of b) ++ rest) []
  here before = subst AllChildren (drop_one items i b inside at) before

  pub no_child : child_at d (branch_of b) ≡ None → AllChildren (drop i items) → AllChildren (drop (i + 1) items)
  no_child none before = subst (λ o. EachReports below site word (flat_map (on_child d) (branches_of items)) []
      ↔ EachReports below site word (map (λ v. target (branch_of b) v (path_of (branch_of b).key)) (option_list o) ++ rest) []) none (here before)

  module _ (v : Data) (is : child_at d (branch_of b) ≡ Some v) (r : Bool) (says : (at : Site) → IsTrue r ↔ below b.schema v at []) where
    abbrev it : Target
    it = target (branch_of b) v (path_of (branch_of b).key)

    with_child : AllChildren (drop i items) → EachReports below site word (flat_map (on_child d) (branches_of items)) [] ↔ EachReports below site word (it ∷ rest) []
    with_child before = subst (λ o. EachReports below site word (flat_map (on_child d) (branches_of items)) []
        ↔ EachReports below site word (map (λ w. target (branch_of b) w (path_of (branch_of b).key)) (option_list o) ++ rest) []) is (here before)

    pub child_passes : r ≡ true → AllChildren (drop i items) → AllChildren (drop (i + 1) items)
    child_passes e before =
        let all = with_child before in
        let passed = target_passed below site word it rest ((says _).0 e) in
        (λ x. passed.0 (all.0 x), λ y. all.1 (passed.1 y))

    pub child_stops : r ≡ false → AllChildren (drop i items) → EachReports below site word (flat_map (on_child d) (branches_of items)) [] → ⊥
    child_stops e before x = false≢true (sym e ∙ (says _).1 (target_first below site word it rest ((with_child before).0 x)))
