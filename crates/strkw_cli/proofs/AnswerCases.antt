-- From what is compiled and evaluated to the answer.
use Rattle.std.proofs.Common.{◌≡◌, ◌≢◌, ◌↔◌, ◌⊎◌, inl, inr, ℕ, List, [], Bool, true, false, ◌++◌, Option}
use Rattle.std.proofs.Common.{Some, None, Result, Ok, Err, OnOk, OnErr, refl, sym, ap}
use Rattle.std.proofs.Common.{◌∙◌, subst, codes, append_assoc, if◌then◌else◌, is_ok, option_and_then}
use Rattle.std.proofs.Common.{length, take, arith, IsUtf8}
use Rattle.std.proofs.lemmas.List.{take-append-le, take_all}
use Rattle.serde_json.specs.Read.{read as read_text}
use Rattle.strkw_report.specs.Kinds.{Report}
use Rattle.strkw_report.specs.Refusals.{reason_of, refusal_of, out_of_memory}
use Rattle.strkw_report.specs.declared.refusal.CompileError.{CompileError}
use Rattle.strkw_pattern.specs.declared.engine.Outcome.{Outcome}
use Rattle.strkw_pattern.specs.declared.matcher.LiteralMatcher.{LiteralMatcher}
use Rattle.strkw_keywords.specs.Meanings.{Lists, no_lists}
use Rattle.strkw_keywords.specs.Errors.{Assertion, NodeReports}
use Rattle.strkw_keywords.specs.Remarks.{Remark}
use Rattle.strkw_keywords.specs.Object.{Settings, FirstRefusal, remarks_on}
use Rattle.strkw_keywords.specs.Lengths.{IsEmpty}
use Rattle.strkw_keywords.proofs.Folding.{interval_is_left}
use Rattle.strkw_object.specs.declared.strings.StringKeywords.{StringKeywords}
use Rattle.strkw_object.specs.Compiled.{IsCompiledFrom, keywords_assertions, keywords_interval, keywords_remarks}
use Rattle.strkw_keywords.specs.Compiled.{out_of_memory_refusal}
use Rattle.strkw_cli.specs.Request.{Request, request_in}
use Rattle.strkw_print.specs.Printed.{note_lines, refused_line}
use Rattle.strkw_report.specs.Standings.{root_site}
use Rattle.strkw_cli.specs.Answer.{settings_for, Answers, IsAnswer, TellsFold, verdict_lines}
use Rattle.strkw_cache.specs.Told.{IsTold}
use Rattle.strkw_cli.proofs.Asked.{nothing_read, reading_of}
use Rattle.strkw_object.proofs.Meaning.{compiled_folds}

-- what is told of folding, by what holds exactly where P does
pub tells_alike : {P Q : Type 0} (asked : Bool) (told : List ℕ) → P ↔ Q → TellsFold asked P told → TellsFold asked Q told
tells_alike false told same none = none
tells_alike true told same (inl holds) = inl (same.0 holds.0, holds.1)
tells_alike true told same (inr fails) = inr ((λ q. fails.0 (same.1 q)), fails.1)

-- the answer by a compiled object
pub answer_of_compiled : {E : Type 0} (outcome : E → List ℕ → Outcome) (r : Request) (k : StringKeywords E) (told : List ℕ) (errors : List Report)
    (notes : List Remark)
    → IsCompiledFrom outcome (settings_for r) r.schema k
    → TellsFold r.fold (IsEmpty (keywords_interval outcome k)) told
    → NodeReports (keywords_assertions outcome k) no_lists root_site r.instance errors
    → notes ≡ remarks_on r.instance (keywords_remarks k)
    → Answers (Some r) (told ++ (verdict_lines errors ++ note_lines notes ++ codes "end\n"))
answer_of_compiled outcome r k told errors notes of tells reports noted =
    let node = r.instance in (
      None,
      (of.entries, of.are_entries, of.good),
      (
        told,
        errors,
        notes,
        tells_alike r.fold told (compiled_folds outcome (settings_for r) r.schema k interval_is_left of) tells,
        (of.entries, of.are_entries, subst (λ a. NodeReports a no_lists root_site node errors) of.asserts reports),
        (of.entries, of.are_entries, noted ∙ ap (remarks_on node) of.notes),
        refl,
      ),
    )

-- the answer by a refusal that is not out of memory
pub answer_of_refusal : (r : Request) (e : CompileError) → (refusal_of e ≡ out_of_memory_refusal) ⊎ FirstRefusal (settings_for r) r.schema (Some (refusal_of e))
    → reason_of e.kind ≢ out_of_memory
    → Answers (Some r) (refused_line (refusal_of e) ++ codes "end\n")
answer_of_refusal r e (inl none) had = absurd (had (ap (λ r. r.reason) none))
answer_of_refusal r e (inr first) had = (Some (refusal_of e), first, refl)

-- what is told was appended, where the call succeeded
pub told_appended : {T E : Type 0} (result : Result T E) (P : Type 0) (old new told kept : List ℕ) → TellsFold true P told
    → new ≡ (if is_ok result then old ++ told else kept) → OnOk result ((x : List ℕ) × (new ≡ old ++ x) × TellsFold true P x)
told_appended (Ok x) P old new told kept tells grown = (told, grown, tells)
told_appended (Err e) P old new told kept tells grown = tt

-- where the first of two steps appended, the second was refused
pub appended_more : {T E : Type 0} (result : Result T E) (old mid new front : List ℕ) → mid ≡ old ++ front
    → OnErr result ((more : List ℕ) × (new ≡ mid ++ more)) → OnErr result ((more : List ℕ) × (new ≡ old ++ more))
appended_more (Ok x) old mid new front first second = tt
appended_more (Err e) old mid new front first second = (front ++ second.0, second.1 ∙ ap (λ l. l ++ second.0) first ∙ append_assoc old front second.0)

-- where a call changed nothing, what the next one left behind stands behind what was there before
pub grown_anyway : {T E : Type 0} (result : Result T E) (P : List ℕ → Type 0) (old mid new : List ℕ) → mid ≡ old
    → OnOk result ((made : List ℕ) × (new ≡ mid ++ made) × P made) → OnErr result ((more : List ℕ) × (new ≡ mid ++ more))
    → (more : List ℕ) × (new ≡ old ++ more)
grown_anyway (Ok x) P old mid new same (made, is, holds) err = (made, is ∙ ap (λ l. l ++ made) same)
grown_anyway (Err e) P old mid new same ok (more, is) = (more, is ∙ ap (λ l. l ++ more) same)

-- what stands behind so many bytes is cut off
pub cut_back : (n : ℕ) (old mid new more : List ℕ) → n ≡ length old → mid ≡ old ++ more → new ≡ take n mid → new ≡ old
cut_back n old mid new more is grown cut =
    cut ∙ ap (take n) grown ∙ take-append-le n old more (omega (arith, is)) ∙ take_all n old (omega (arith, is))

-- the lines of an instance
abbrev pub found_lines : Option (List ℕ) → List Report → List Remark → List ℕ
found_lines node errors remarks = verdict_lines errors ++ note_lines (remarks_on node remarks) ++ codes "end\n"

-- an instance that is no text
pub appended_none : {T E : Type 0} (result : Result T E) (assertions : List Assertion) (lists : Lists) (node : Option (List ℕ)) (remarks : List Remark)
    (old new : List ℕ)
    → node ≡ None → OnOk result (new ≡ old ++ codes "valid\nend\n")
    → OnOk result ((errors : List Report) × (new ≡ old ++ found_lines node errors remarks) × NodeReports assertions lists root_site node errors)
appended_none (Ok x) assertions lists text remarks old new is grown = ([], rw is grown, rw is refl)
appended_none (Err e) assertions lists text remarks old new is grown = tt

-- a text: its errors, and then what is told behind them
pub appended_text : {T F : Type 0} (result : Result T F) (assertions : List Assertion) (lists : Lists) (node : Option (List ℕ)) (text : List ℕ)
    (k : StringKeywords LiteralMatcher) (old mid new : List ℕ)
    → (errors : List Report) × (mid ≡ old ++ verdict_lines errors) × NodeReports assertions lists root_site (Some text) errors
    → OnOk result ((told : List ℕ) × (new ≡ mid ++ told) × IsTold (Ok k) told) → node ≡ Some text
    → OnOk result ((errors : List Report) × (new ≡ old ++ found_lines node errors (keywords_remarks k)) × NodeReports assertions lists root_site node errors)
appended_text (Ok x) assertions lists node text k old mid new (errors, first, reports) (told, grown, same) is =
    let lines = verdict_lines errors in
    let notes = note_lines (keywords_remarks k) in
    let whole : new ≡ old ++ (lines ++ notes ++ codes "end\n") =
    grown ∙ ap (λ l. l ++ told) first ∙ append_assoc old lines told ∙ ap (λ l. old ++ (lines ++ l)) same
    ∙ ap (λ l. old ++ l) (sym (append_assoc lines notes (codes "end\n"))) in
    (errors, rw is whole, rw is reports)
appended_text (Err e) assertions lists node text k old mid new found rest is = tt

-- what is told, and then the lines of an instance, are an answer
pub appended_found : {T E F : Type 0} (result : Result T F) (outcome : E → List ℕ → Outcome) (r : Request) (s : Settings) (k : StringKeywords E)
    (told old mid new : List ℕ)
    → s ≡ settings_for r → IsCompiledFrom outcome s r.schema k → TellsFold r.fold (IsEmpty (keywords_interval outcome k)) told → mid ≡ old ++ told
    → OnOk result ((errors : List Report) × (new ≡ mid ++ found_lines r.instance errors (keywords_remarks k))
    × NodeReports (keywords_assertions outcome k) s.lists root_site r.instance errors)
    → OnOk result ((x : List ℕ) × (new ≡ old ++ x) × Answers (Some r) x)
appended_found (Ok x) outcome r s k told old mid new same of tells first (errors, grown, reports) =
    let lines = found_lines r.instance errors (keywords_remarks k) in (
      told ++ lines,
      grown ∙ ap (λ l. l ++ lines) first ∙ append_assoc old told lines,
      answer_of_compiled outcome r k told errors (remarks_on r.instance (keywords_remarks k)) (subst (λ t. IsCompiledFrom outcome t r.schema k) same of) tells
          (subst (λ t. NodeReports (keywords_assertions outcome k) t.lists root_site r.instance errors) same reports) refl,
    )
appended_found (Err e) outcome r s k told old mid new same of tells first found = tt

-- the same where what was told is a refusal
pub appended_refusal : {T E : Type 0} (result : Result T E) (r : Request) (e : CompileError) (old new : List ℕ)
    → (refusal_of e ≡ out_of_memory_refusal) ⊎ FirstRefusal (settings_for r) r.schema (Some (refusal_of e))
    → OnOk result ((told : List ℕ) × (new ≡ old ++ told) × IsTold (Err e) told)
    → OnOk result ((x : List ℕ) × (new ≡ old ++ x) × Answers (Some r) x)
appended_refusal (Ok x) r e old new refused (told, grown, (had, is)) =
    (refused_line (refusal_of e) ++ codes "end\n", grown ∙ ap (λ l. old ++ l) is, answer_of_refusal r e refused had)
appended_refusal (Err f) r e old new refused found = tt

-- the same of a request that asks so about folding, and has this instance, where the lists are empty
pub appended_answer : {T E F : Type 0} (result : Result T F) (outcome : E → List ℕ → Outcome) (r : Request) (k : StringKeywords E) (lists : Lists) (fold : Bool)
    (node : Option (List ℕ)) (old mid new : List ℕ)
    → r.fold ≡ fold → r.instance ≡ node → lists ≡ no_lists → IsCompiledFrom outcome (settings_for r) r.schema k
    → (told : List ℕ) × (mid ≡ old ++ told) × TellsFold fold (IsEmpty (keywords_interval outcome k)) told
    → OnOk result ((errors : List Report) × (new ≡ mid ++ found_lines node errors (keywords_remarks k))
    × NodeReports (keywords_assertions outcome k) lists root_site node errors)
    → OnOk result ((x : List ℕ) × (new ≡ old ++ x) × Answers (Some r) x)
appended_answer result outcome r k lists fold node old mid new folds is none of (told, first, tells) found =
    appended_found result outcome r (settings_for r) k told old mid new refl of
    (subst (λ f. TellsFold f (IsEmpty (keywords_interval outcome k)) told) (sym folds) tells) first
    (subst (λ n. OnOk result ((errors : List Report) × (new ≡ mid ++ found_lines n errors (keywords_remarks k))
    × NodeReports (keywords_assertions outcome k) no_lists root_site n errors)) (sym is)
    (subst (λ l. OnOk result ((errors : List Report) × (new ≡ mid ++ found_lines node errors (keywords_remarks k))
    × NodeReports (keywords_assertions outcome k) l root_site node errors)) none found))

-- what answers the request that a text is, is the answer to the text as a line
pub answered_by : (text old new : List ℕ) (r : Request) → IsUtf8 text → option_and_then request_in (read_text text) ≡ Some r
    → ((made : List ℕ) × (new ≡ old ++ made) × Answers (Some r) made)
    → (made : List ℕ) × (new ≡ old ++ made) × IsAnswer text made
answered_by text old new r utf8 same (made, grown, answers) =
    (made, grown, record { value = read_text text; is_reading = reading_of text _ utf8 refl; answers = subst (λ found. Answers found made) (sym same) answers })

-- the answer to a text that is no request
pub answer_to_none : (text : List ℕ) → IsUtf8 text → option_and_then request_in (read_text text) ≡ None → IsAnswer text (codes "bad request\nend\n")
answer_to_none text utf8 none = record {
  value = read_text text;
  is_reading = reading_of text _ utf8 refl;
  answers = subst (λ found. Answers found (codes "bad request\nend\n")) (sym none) refl;
}

-- the answer to a line of no bytes
pub answer_to_nothing : IsAnswer [] (codes "bad request\nend\n")
answer_to_nothing = record { value = None; is_reading = λ utf8. nothing_read; answers = refl }
