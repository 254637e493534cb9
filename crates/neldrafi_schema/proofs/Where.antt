-- What `then` and `else` report, by the verdict on `if`.
use Rattle.std.proofs.Common.{◌≡◌, ◌↔◌, ◌<◌, ◌≤◌, ◌∷◌, ℕ, List, [], length, get_or, Bool, true, false, refl, sym, subst, arith, IsTrue}
use Rattle.std.specs.Prelude.{not}
use Rattle.serde_json.specs.Data.{Data}
use Rattle.strkw_report.specs.declared.error.Site.{Site}
use Rattle.strkw_keywords.specs.Meanings.{Lists}
use Rattle.neldrafi_schema.specs.Schemas.{Branch, Keyword, Rule, Schema, condition, rule, where_valid, where_not_valid}
use Rattle.neldrafi_schema.specs.Rules.{Target, applied, target}
use Rattle.neldrafi_schema.specs.Meaning.{Below, KeywordReports, site_of}
use Rattle.neldrafi_schema.specs.declared.conditions.Choice.{Choice}
use Rattle.neldrafi_schema.specs.declared.conditions.Choice.TheVariants.{Unknown, Passes, Leads}
use Rattle.neldrafi_schema.specs.declared.node.Branch.{Branch as CompiledBranch}
use Rattle.neldrafi_schema.specs.machine.Compiled.{branch_of, branches_of}
use Rattle.neldrafi_schema.specs.machine.Conditions.{AreTwo, Chooses, ChoosesAlone, IsOnly, IsVerdict, Means}
use Rattle.neldrafi_schema.specs.machine.Left.{AreFindings}
use Rattle.neldrafi_schema.proofs.Taken.{own_found}
use Rattle.neldrafi_schema.proofs.Visited.{no_targets, rule_passes, target_first}
use Rattle.neldrafi_schema.specs.Schemas.{Header}

module _ (schemas : List Schema) (below : Below) (lists : Lists) (header : Header) (beside : List Keyword) (word : List ℕ) (a b : Branch) (d : Data) (site : Site) where
  abbrev Reported : Rule → Type 0
  Reported r = KeywordReports schemas below lists header beside (rule word r (a ∷ b ∷ [])) d site []

  abbrev Found : Rule → List Target → Type 0
  Found r ts = AreFindings schemas below beside (rule word r (a ∷ b ∷ [])) d site [] ts

  then_found : (v : Bool) → IsVerdict below d b.schema v → Found where_valid (applied beside where_valid (a ∷ b ∷ []) d (v ∷ []))
  then_found v known = own_found schemas below beside word where_valid (a ∷ b ∷ []) d site [] (applied beside where_valid (a ∷ b ∷ []) d (v ∷ [])) (v ∷ [])
      refl (v, [], known _, refl, refl) refl refl

  else_found : (v : Bool) → IsVerdict below d b.schema v → Found where_not_valid (applied beside where_not_valid (a ∷ b ∷ []) d (v ∷ []))
  else_found v known = own_found schemas below beside word where_not_valid (a ∷ b ∷ []) d site [] (applied beside where_not_valid (a ∷ b ∷ []) d (v ∷ [])) (v ∷ [])
      refl (v, [], known _, refl, refl) refl refl

  -- nothing is left to report, or the first schema
  passes : (r : Rule) → Found r [] → Reported r
  passes r found = rule_passes schemas below lists header beside word r (a ∷ b ∷ []) d site [] [] found refl refl

  leads : (r : Rule) → Found r (target a d [] ∷ []) → (v : Bool) → IsVerdict below d a.schema v → IsTrue v ↔ Reported r
  leads r found v says = (
    λ t. rule_passes schemas below lists header beside word r (a ∷ b ∷ []) d site [] (target a d [] ∷ []) found refl ([], [], (says _).0 t, refl, refl),
    λ reported. (says _).1 (target_first below site word (target a d []) [] (no_targets schemas below lists header beside word r (a ∷ b ∷ []) d site [] (target a d [] ∷ []) found reported)),
  )

  pub then_passes : IsVerdict below d b.schema false → Reported where_valid
  then_passes known = passes where_valid (then_found false known)

  pub then_leads : IsVerdict below d b.schema true → (v : Bool) → IsVerdict below d a.schema v → IsTrue v ↔ Reported where_valid
  then_leads known = leads where_valid (then_found true known)

  pub else_passes : IsVerdict below d b.schema true → Reported where_not_valid
  else_passes known = passes where_not_valid (else_found true known)

  pub else_leads : IsVerdict below d b.schema false → (v : Bool) → IsVerdict below d a.schema v → IsTrue v ↔ Reported where_not_valid
  else_leads known = leads where_not_valid (else_found false known)

-- what was chosen by what is known
module _ (schemas : List Schema) (below : Below) (lists : Lists) (header : Header) (beside : List Keyword) (word : List ℕ) (bs : List Branch) (d : Data) (site : Site) (number : ℕ) where
  abbrev Meant : Rule → Choice → Type 0
  Meant r choice = Means schemas below lists header beside (rule word r bs) d site choice

  -- the verdict on the second schema
  on_test : (two : AreTwo bs number) (v w : Bool) → v ≡ w → IsVerdict below d number v → IsVerdict below d two.test.schema w
  on_test two v w e known = subst (IsVerdict below d two.test.schema) e (subst (λ n. IsVerdict below d n v) (sym two.is) known)

  pub then_means : (valid : Bool) (choice : Choice) → Chooses bs number valid choice → IsVerdict below d number valid → Meant where_valid choice
  then_means valid Unknown chosen known = tt
  then_means valid Passes (two, e) known = subst (λ l. KeywordReports schemas below lists header beside (rule word where_valid l) d site []) (sym two.are)
      (then_passes schemas below lists header beside word two.first two.test d site (on_test two valid false e known))
  then_means valid (Leads n) (two, same, e) known = λ v says. subst (λ l. IsTrue v ↔ KeywordReports schemas below lists header beside (rule word where_valid l) d site []) (sym two.are)
      (then_leads schemas below lists header beside word two.first two.test d site (on_test two valid true e known) v (subst (λ m. IsVerdict below d m v) (sym same) says))

  pub else_means : (valid : Bool) (choice : Choice) → Chooses bs number (not valid) choice → IsVerdict below d number valid → Meant where_not_valid choice
  else_means valid Unknown chosen known = tt
  else_means valid Passes (two, e) known = subst (λ l. KeywordReports schemas below lists header beside (rule word where_not_valid l) d site []) (sym two.are)
      (else_passes schemas below lists header beside word two.first two.test d site (on_test two valid true (is_valid valid e) known)) where
        is_valid : (b : Bool) → not b ≡ false → b ≡ true
        is_valid true e = refl
        is_valid false e = sym e
  else_means valid (Leads n) (two, same, e) known = λ v says. subst (λ l. IsTrue v ↔ KeywordReports schemas below lists header beside (rule word where_not_valid l) d site []) (sym two.are)
      (else_leads schemas below lists header beside word two.first two.test d site (on_test two valid false (is_not_valid valid e) known) v (subst (λ m. IsVerdict below d m v) (sym same) says)) where
        is_not_valid : (b : Bool) → not b ≡ true → b ≡ false
        is_not_valid true e = sym e
        is_not_valid false e = refl

-- the condition alone reports nothing
condition_alone : (schemas : List Schema) (below : Below) (lists : Lists) (header : Header) (beside : List Keyword) (word : List ℕ) (bs : List Branch) (d : Data) (site : Site)
    (number : ℕ) (valid : Bool) → IsOnly bs number → IsVerdict below d number valid → KeywordReports schemas below lists header beside (rule word condition bs) d site []
condition_alone schemas below lists header beside word bs d site number valid (test, are, is) known =
    subst (λ l. KeywordReports schemas below lists header beside (rule word condition l) d site []) (sym are)
    (rule_passes schemas below lists header beside word condition (test ∷ []) d site [] []
    (own_found schemas below beside word condition (test ∷ []) d site [] [] (valid ∷ []) refl
    (valid, [], subst (λ n. IsTrue valid ↔ below n d (site_of site word (target test d [])) []) (sym is) (known _), refl, refl) refl refl) refl refl)

pub condition_means : (schemas : List Schema) (below : Below) (lists : Lists) (header : Header) (beside : List Keyword) (word : List ℕ) (bs : List Branch) (d : Data) (site : Site)
    (number : ℕ) (valid : Bool) (choice : Choice) → ChoosesAlone bs number choice → IsVerdict below d number valid
    → Means schemas below lists header beside (rule word condition bs) d site choice
condition_means schemas below lists header beside word bs d site number valid Unknown chosen known = tt
condition_means schemas below lists header beside word bs d site number valid Passes chosen known =
    condition_alone schemas below lists header beside word bs d site number valid chosen known
condition_means schemas below lists header beside word bs d site number valid (Leads n) chosen known = absurd chosen

-- a slice of one, or of two
pub one_of : (bs : List CompiledBranch) (a : CompiledBranch) → 1 ≤ length bs → length bs < 2 → a ≡ get_or bs 0 a → branches_of bs ≡ branch_of a ∷ []
one_of [] a some few e = absurd (omega arith)
one_of (x ∷ []) a some few e = rw (sym e) refl
one_of (x ∷ y ∷ bs) a some few e = absurd (omega arith)

pub two_of : (bs : List CompiledBranch) (a b : CompiledBranch) → 2 ≤ length bs → length bs < 3 → a ≡ get_or bs 0 a → b ≡ get_or bs 1 b → branches_of bs ≡ branch_of a ∷ branch_of b ∷ []
two_of [] a b some few e f = absurd (omega arith)
two_of (x ∷ []) a b some few e f = absurd (omega arith)
two_of (x ∷ y ∷ []) a b some few e f = rw (sym e, sym f) refl
two_of (x ∷ y ∷ z ∷ bs) a b some few e f = absurd (omega arith)
