-- What an object is compiled to can answer.
use Rattle.std.proofs.Common.{◌≡◌, ◌⊎◌, ◌∙◌, ℕ, List, [], IfOk, Option, Some, Result, Ok, Err, false, refl, subst, ap}
use Rattle.std.specs.Result.{IfErr}
use Rattle.serde_json.specs.Data.{Members}
use Rattle.strkw_report.specs.Refusals.{prints_float, reason_of, refusal_of}
use Rattle.strkw_report.specs.declared.refusal.CompileError.{CompileError}
use Rattle.strkw_pattern.specs.Matcher.{literal_outcome}
use Rattle.strkw_pattern.specs.declared.matcher.LiteralMatcher.{LiteralMatcher}
use Rattle.strkw_keywords.specs.Compiled.{out_of_memory_refusal}
use Rattle.strkw_keywords.specs.Demands.{IsInUse}
use Rattle.strkw_keywords.specs.Object.{Settings, FirstRefusal, remarks_on}
use Rattle.strkw_keywords.specs.Remarks.{Remark}
use Rattle.strkw_pattern.specs.declared.engine.Outcome.{Outcome}
use Rattle.strkw_object.specs.declared.strings.StringKeywords.{StringKeywords}
use Rattle.strkw_object.specs.Compiled.{IsCompiledFrom, keywords_demands, keywords_remarks}
use Rattle.strkw_cache.specs.Cached.{IsCompiledTo, settings_under}
use Rattle.strkw_cache.specs.Told.{CanAnswer}
use Rattle.strkw_cache.specs.declared.terms.Terms.{Terms}
use Rattle.strkw_object.specs.Printable.{ArePrintable}
use Rattle.strkw_object.proofs.Printable.{notes_printable}

-- what a compiled object notes has a text
compiled_printable : {E : Type 0} (outcome : E → List ℕ → Outcome) (s : Settings) (ms : Members) (k : StringKeywords E) → IsCompiledFrom outcome s ms k
    → (node : Option (List ℕ)) (rs : List Remark) → rs ≡ remarks_on node (keywords_remarks k) → ArePrintable rs
compiled_printable outcome s ms k of node rs is = notes_printable s ms node rs (of.entries, of.are_entries, is ∙ ap (remarks_on node) of.notes)

module _ (s : Settings) (terms : Terms) (ms : Members) (same : s ≡ settings_under terms) where
  -- it is compiled to keywords, or to a refusal
  pub compiled_to : (r : Result (StringKeywords LiteralMatcher) CompileError) → IfOk r (λ k. IsCompiledFrom literal_outcome s ms k)
      → IfErr r (λ e. (refusal_of e ≡ out_of_memory_refusal) ⊎ FirstRefusal s ms (Some (refusal_of e))) → IsCompiledTo (settings_under terms) ms r
  compiled_to (Ok k) of refused = subst (λ t. IsCompiledFrom literal_outcome t ms k) same of
  compiled_to (Err e) of refused = subst (λ t. (refusal_of e ≡ out_of_memory_refusal) ⊎ FirstRefusal t ms (Some (refusal_of e))) same refused

  -- the keywords, which no check is asked of, or the refusal can answer
  pub can_answer : (r : Result (StringKeywords LiteralMatcher) CompileError) → IfOk r (λ k. IsCompiledFrom literal_outcome s ms k)
      → IfOk r (λ k. IsInUse (keywords_demands literal_outcome k) s.lists) → IfErr r (λ e. prints_float (reason_of e.kind) ≡ false) → CanAnswer r
  can_answer (Ok k) of uses prints = (
    subst (λ t. IsInUse (keywords_demands literal_outcome k) t.lists) same uses,
    compiled_printable literal_outcome s ms k of (Some []) (keywords_remarks k) refl,
  )
  can_answer (Err e) of uses prints = prints
