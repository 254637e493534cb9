-- What is told behind the errors of a text, as it is appended.
use Rattle.std.proofs.Common.{◌≡◌, ◌≢◌, ◌∙◌, ℕ, List, ◌++◌, Result, Ok, Err, OnOk, codes, refl, ap, append_assoc}
use Rattle.strkw_report.specs.Refusals.{out_of_memory, reason_of, refusal_of}
use Rattle.strkw_report.specs.declared.refusal.CompileError.{CompileError}
use Rattle.strkw_pattern.specs.declared.matcher.LiteralMatcher.{LiteralMatcher}
use Rattle.strkw_object.specs.declared.strings.StringKeywords.{StringKeywords}
use Rattle.strkw_object.specs.Compiled.{keywords_remarks}
use Rattle.strkw_print.specs.Printed.{note_lines, refused_line}
use Rattle.strkw_cache.specs.Told.{IsTold}

-- what is told was appended
pub made_appended : {T F : Type 0} (result : Result T F) (P : List ℕ → Type 0) (old new told : List ℕ) → OnOk result (P told) → OnOk result (new ≡ old ++ told)
    → OnOk result ((made : List ℕ) × (new ≡ old ++ made) × P made)
made_appended (Ok x) P old new told is grown = (told, grown, is)
made_appended (Err e) P old new told is grown = tt

-- lines, and then the end, were appended
ended : (old mid new lines : List ℕ) → mid ≡ old ++ lines → new ≡ mid ++ codes "end\n" → new ≡ old ++ (lines ++ codes "end\n")
ended old mid new lines first second = second ∙ ap (λ l. l ++ codes "end\n") first ∙ append_assoc old lines (codes "end\n")

-- the notes and the end are told behind the errors of a text
pub told_notes : {T F : Type 0} (result : Result T F) (k : StringKeywords LiteralMatcher) (old mid new : List ℕ)
    → mid ≡ old ++ note_lines (keywords_remarks k) → OnOk result (new ≡ mid ++ codes "end\n")
    → OnOk result ((told : List ℕ) × (new ≡ old ++ told) × IsTold (Ok k) told)
told_notes (Ok x) k old mid new first second =
    (note_lines (keywords_remarks k) ++ codes "end\n", ended old mid new (note_lines (keywords_remarks k)) first second, refl)
told_notes (Err e) k old mid new first second = tt

-- and of a refusal its line, and the end
pub told_refusal : {T F : Type 0} (result : Result T F) (e : CompileError) (old mid new : List ℕ)
    → mid ≡ old ++ refused_line (refusal_of e) → reason_of e.kind ≢ out_of_memory → OnOk result (new ≡ mid ++ codes "end\n")
    → OnOk result ((told : List ℕ) × (new ≡ old ++ told) × IsTold (Err e) told)
told_refusal (Ok x) e old mid new first had second =
    (refused_line (refusal_of e) ++ codes "end\n", ended old mid new (refused_line (refusal_of e)) first second, (had, refl))
told_refusal (Err f) e old mid new first had second = tt
