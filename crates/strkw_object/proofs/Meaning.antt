-- What a schema object means is determined, and a compiled object has that meaning.
use Rattle.std.proofs.Common.{◌≡◌, ◌↔◌, ℕ, List, Option, None, sym, ap, ◌∙◌, subst}
use Rattle.serde_json.specs.Data.{Members}
use Rattle.strkw_report.specs.Kinds.{Report}
use Rattle.strkw_report.specs.Refusals.{Refusal}
use Rattle.strkw_report.specs.declared.error.Site.{Site}
use Rattle.strkw_pattern.specs.declared.engine.Outcome.{Outcome}
use Rattle.strkw_keywords.specs.Meanings.{Lists}
use Rattle.strkw_keywords.specs.Demands.{IsInUse}
use Rattle.strkw_keywords.specs.Errors.{NodeReports, demands_asserted}
use Rattle.strkw_keywords.specs.Remarks.{Remark}
use Rattle.strkw_keywords.specs.Object.{Settings, Errors, all_demands, all_assertions, all_remarks, FirstRefusal, remarks_on, Notes}
use Rattle.strkw_keywords.specs.Laws.{CompiledIsInUse}
use Rattle.strkw_object.specs.declared.strings.StringKeywords.{StringKeywords}
use Rattle.strkw_formats.specs.FormatLaws.{IsInside}
use Rattle.strkw_keywords.specs.Lengths.{IsEmpty, interval}
use Rattle.strkw_keywords.specs.Folding.{IsInInterval, FoldsToFalse, IntervalIsLeft}
use Rattle.strkw_object.specs.Compiled.{keywords_assertions, keywords_demands, keywords_interval, keywords_remarks, IsCompiledFrom}
use Rattle.strkw_keywords.proofs.Asserted.{demands_of_placed}
use Rattle.strkw_keywords.proofs.Entries.{AreEntries-unique, FirstRefusal-unique}
use Rattle.strkw_object.proofs.Many.{demands_are_asserted}

-- ---- the compiled object

module _ {E : Type 0} (outcome : E → List ℕ → Outcome) (s : Settings) (ms : Members) (k : StringKeywords E) where
  -- what a compiled object reports of a node are exactly its errors by the schema object
  pub compiled_errors : (lists : Lists) (site : Site) (node : Option (List ℕ)) (rs : List Report) → IsCompiledFrom outcome s ms k
      → NodeReports (keywords_assertions outcome k) lists site node rs ↔ Errors s ms lists site node rs
  compiled_errors lists site node rs c = (
    (λ h. (c.entries, c.are_entries, subst (λ l. NodeReports l lists site node rs) c.asserts h)),
    (λ h. subst (λ l. NodeReports l lists site node rs) (ap (all_assertions s.place) (AreEntries-unique s ms h.0 c.entries h.1 c.are_entries) ∙ sym c.asserts)
        h.2),
  )

  -- what a compiled object notes of a node are exactly its notes by the schema object
  pub compiled_notes : (node : Option (List ℕ)) (remarks : List Remark) → IsCompiledFrom outcome s ms k
      → (remarks ≡ remarks_on node (keywords_remarks k)) ↔ Notes s ms node remarks
  compiled_notes node remarks c = (
    (λ h. (c.entries, c.are_entries, h ∙ ap (remarks_on node) c.notes)),
    (λ h. h.2 ∙ ap (λ l. remarks_on node (all_remarks s.place l)) (AreEntries-unique s ms h.0 c.entries h.1 c.are_entries) ∙ ap (remarks_on node)
        (sym c.notes)),
  )

  -- a compiled object demands what the entries that it was compiled from demand
  compiled_demands : (c : IsCompiledFrom outcome s ms k) → keywords_demands outcome k ≡ all_demands c.entries
  compiled_demands c =
      sym (demands_are_asserted outcome k.validators.items) ∙ ap demands_asserted c.asserts
      ∙ demands_of_placed s.place (all_demands c.entries)

  -- by `IntervalIsLeft`, the interval of a compiled object has exactly the lengths of the schema object's
  pub compiled_interval : IntervalIsLeft → (n : ℕ) → IsCompiledFrom outcome s ms k → IsInside (keywords_interval outcome k) n ↔ IsInInterval s ms n
  compiled_interval law n c =
      subst (λ l. IsInside (interval l) n ↔ IsInInterval s ms n) (sym (compiled_demands c)) (law s ms c.entries n c.are_entries)

  -- by `IntervalIsLeft`, that interval is empty exactly where the schema object folds to false
  pub compiled_folds : IntervalIsLeft → IsCompiledFrom outcome s ms k → IsEmpty (keywords_interval outcome k) ↔ FoldsToFalse s ms
  compiled_folds law c = (
    (λ h n i. h n ((compiled_interval law n c).1 i)),
    (λ h n i. h n ((compiled_interval law n c).0 i)),
  )

  -- by `CompiledIsInUse`, a compiled object is in use with the lists that it was compiled with
  pub compiled_in_use : CompiledIsInUse → IsCompiledFrom outcome s ms k → IsInUse (keywords_demands outcome k) s.lists
  compiled_in_use law c = subst (λ l. IsInUse l s.lists) (sym (compiled_demands c)) (law s ms c.entries c.are_entries)

  -- a schema object that was compiled has no first refusal
  pub compiled_first : (first : Option Refusal) → IsCompiledFrom outcome s ms k → FirstRefusal s ms first → first ≡ None
  compiled_first first c h = FirstRefusal-unique s ms first None h (c.entries, c.are_entries, c.good)
