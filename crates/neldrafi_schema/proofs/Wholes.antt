-- A whole instance is visited within the steps that are enough for it.
use Rattle.std.proofs.Common.{◌≡◌, ◌↔◌, ◌∙◌, ℕ, ◌≤◌, List, [], ◌++◌, length, sym, ap, subst, Bool, IsTrue}
use Rattle.std.proofs.lemmas.List.{length-map}
use Rattle.serde_json.specs.Data.{Data, depth}
use Rattle.strkw_report.specs.declared.error.Site.{Site}
use Rattle.strkw_pattern.specs.declared.engine.Outcome.{Outcome}
use Rattle.strkw_keywords.specs.Meanings.{Lists}
use Rattle.strkw_keywords.specs.declared.validator.Validator.{Validator}
use Rattle.neldrafi_schema.specs.declared.error.ValidationError.{ValidationError}
use Rattle.neldrafi_schema.specs.declared.node.Body.{Body}
use Rattle.neldrafi_schema.specs.declared.node.Body.TheVariants as body
use Rattle.neldrafi_schema.specs.declared.node.Keyword.{Keyword as CompiledKeyword}
use Rattle.neldrafi_schema.specs.declared.node.Keyword.TheVariants as keyword
use Rattle.neldrafi_schema.specs.declared.node.Node.{Node}
use Rattle.neldrafi_schema.specs.declared.node.Rule.{Rule}
use Rattle.neldrafi_schema.specs.declared.node.Rule.TheVariants as compiled
use Rattle.neldrafi_schema.specs.declared.annotation.Annotation.{Annotation}
use Rattle.neldrafi_schema.specs.Annotations.{Annotates, HasAnnotations}
use Rattle.neldrafi_schema.specs.machine.Annotated.{Annotated, annotations_of}
use Rattle.neldrafi_schema.specs.Meaning.{HasErrors, Reports, enough, root_site}
use Rattle.neldrafi_schema.specs.machine.Compiled.{schema_of, schemas_of}
use Rattle.neldrafi_schema.specs.machine.Found.{Appended, errors_of}
use Rattle.neldrafi_schema.specs.machine.Ready.{IsBodyReady, IsKeywordReady, IsPatternReady, IsReady, IsRuleReady, steps_for}
use Rattle.neldrafi_schema.proofs.Depth.{enough_steps}
use Rattle.neldrafi_schema.proofs.Keeping.{all_weaker}

module _ {E : Type 0} (outcome : E → List ℕ → Outcome) (nodes read : List (Node E)) (same : read ≡ nodes) where
  -- it is visited within the steps that are enough for it
  module _ (count : ℕ) (all : count ≡ length nodes) (lists : Lists) (d : Data) where
    enough_for : steps_for (length read) d count ≤ enough (schemas_of outcome nodes) d
    enough_for = rw (same, all, length-map nodes (schema_of outcome)) (enough_steps (length nodes) (depth d))

    pub whole_accepts : (b : Bool) → ((k : ℕ) (site : Site) → steps_for (length read) d count ≤ k → IsTrue b ↔ Reports (schemas_of outcome read) lists k 0 d site [])
        → IsTrue b ↔ HasErrors (schemas_of outcome nodes) lists d []
    whole_accepts b says =
        subst (λ l. IsTrue b ↔ Reports (schemas_of outcome l) lists (enough (schemas_of outcome nodes) d) 0 d root_site []) same (says _ root_site enough_for)

    pub whole_errors : (site : Site) (old new : List ValidationError) → site ≡ root_site → old ≡ []
        → ((k : ℕ) → steps_for (length read) d count ≤ k → Appended (Reports (schemas_of outcome read) lists k 0 d site) old new)
        → HasErrors (schemas_of outcome nodes) lists d (errors_of new)
    whole_errors site old new root none appended =
        let k = enough (schemas_of outcome nodes) d in
        let a = appended k enough_for in
        subst (λ es. HasErrors (schemas_of outcome nodes) lists d (errors_of es)) (sym (a.longer ∙ ap (λ l. l ++ a.more) none))
        (subst (λ l. Reports (schemas_of outcome l) lists k 0 d root_site (errors_of a.more)) same
        (subst (λ s. Reports (schemas_of outcome read) lists k 0 d s (errors_of a.more)) root a.said))

    pub whole_annotates : (site : Site) (old new : List Annotation) → site ≡ root_site → old ≡ []
        → ((k : ℕ) → steps_for (length read) d count ≤ k → Annotated (Annotates (schemas_of outcome read) lists k 0 d site) old new)
        → HasAnnotations (schemas_of outcome nodes) lists d [] (annotations_of new)
    whole_annotates site old new root none grown =
        let k = enough (schemas_of outcome nodes) d in
        let a = grown k enough_for in
        subst (λ l. HasAnnotations (schemas_of outcome nodes) lists d [] (annotations_of l)) (sym (a.longer ∙ ap (λ l. l ++ a.more) none))
        (subst (λ l. Annotates (schemas_of outcome l) lists k 0 d root_site (annotations_of a.more)) same
        (subst (λ s. Annotates (schemas_of outcome read) lists k 0 d s (annotations_of a.more)) root a.said))

  pub ready_alike : (P Q : Validator E → Type 0) → ((v : Validator E) → P v → Q v) → IsReady outcome P nodes → IsReady outcome Q read
  ready_alike P Q alike ready = rw same (record {
    some = ready.some;
    end = ready.end;
    each = all_weaker _ _ (λ node. body_ready node.body) nodes ready.each;
  }) where
    pattern_ready : (v : Validator E) → IsPatternReady outcome P (length nodes) v → IsPatternReady outcome Q (length nodes) v
    pattern_ready v p = (alike v p.0, p.1)

    rule_ready : (r : Rule E) → IsRuleReady outcome P (length nodes) r → IsRuleReady outcome Q (length nodes) r
    rule_ready (compiled.Matching patterns) p = all_weaker _ _ pattern_ready patterns.items p
    rule_ready other p = tt

    key_ready : (key : CompiledKeyword E) → IsKeywordReady outcome P (length nodes) key → IsKeywordReady outcome Q (length nodes) key
    key_ready (keyword.Rule r) p = (rule_ready r.rule p.0, p.1)
    key_ready (keyword.Text k v) p = alike v p

    body_ready : (body : Body E) → IsBodyReady outcome P (length nodes) body → IsBodyReady outcome Q (length nodes) body
    body_ready body.Always p = tt
    body_ready body.Never p = tt
    body_ready (body.Keywords ks) p = all_weaker _ _ key_ready ks.items p
