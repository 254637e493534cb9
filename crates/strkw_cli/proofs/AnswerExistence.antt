-- It cannot be that a line has no answer, or an input no output.
use Rattle.std.proofs.Common.{◌≡◌, ◌++◌, inl, inr, ℕ, List, [], ◌∷◌, Bool, true, false, Option, Some, None, refl, codes, option_and_then}
use Rattle.serde_json.specs.Data.{Data}
use Rattle.serde_json.specs.Read.{read as read_text}
use Rattle.strkw_report.specs.Refusals.{Refusal}
use Rattle.strkw_keywords.specs.Laws.{ErrorsAreThere}
use Rattle.strkw_keywords.specs.Folding.{FoldsToFalse}
use Rattle.strkw_keywords.specs.Meanings.{no_lists}
use Rattle.strkw_keywords.proofs.Entries.{first_refusal_exists, notes_exist}
use Rattle.strkw_json.specs.Json.{IsReading}
use Rattle.strkw_cli.specs.Request.{Request, request_in}
use Rattle.strkw_print.specs.Printed.{note_lines, refused_line}
use Rattle.strkw_cli.specs.Lines.{lines}
use Rattle.strkw_report.specs.Standings.{root_site}
use Rattle.strkw_cli.specs.Answer.{settings_for, verdict_lines, TellsFold, AnswersBy, Answers, IsAnswer, AreAnswers, IsOutput}

-- it cannot be that no text is what is told of folding
told_there : (asked : Bool) (P : Type 0) → ((told : List ℕ) → TellsFold asked P told → ⊥) → ⊥
told_there false P none = none [] refl
told_there true P none = none (codes "fold false\n") (inr ((λ p. none (codes "fold true\n") (inl (p, refl))), refl))

-- by `ErrorsAreThere`, it cannot be that a request has no answer, by a refusal or without one
by_there : ErrorsAreThere → (why : Option Refusal) (r : Request) → ((answer : List ℕ) → AnswersBy why r answer → ⊥) → ⊥
by_there errors (Some why) r none = none (refused_line why ++ codes "end\n") refl
by_there errors None r none =
    let (notes, noted) = notes_exist (settings_for r) r.schema r.instance in
    told_there r.fold (FoldsToFalse (settings_for r) r.schema) (λ told tells.
    errors (settings_for r) r.schema no_lists root_site r.instance (λ es are.
    none (told ++ (verdict_lines es ++ note_lines notes ++ codes "end\n")) (told, es, notes, tells, are, noted, refl)))

-- by `ErrorsAreThere`, it cannot be that a request, or what is none, has no answer
answers_there : ErrorsAreThere → (r : Option Request) → ((answer : List ℕ) → Answers r answer → ⊥) → ⊥
answers_there errors None none = none (codes "bad request\nend\n") refl
answers_there errors (Some r) none =
    let (first, is) = first_refusal_exists (settings_for r) r.schema in
    by_there errors first r (λ answer by. none answer (first, is, by))

-- it cannot be that a line has no reading, whether JSON is read of it or not
reading_by : (line : List ℕ) (o : Option Data) → read_text line ≡ o → ((value : Option Data) → IsReading line value → ⊥) → ⊥
reading_by line None e none = none None (λ utf8. e)
reading_by line (Some d) e none = none None (λ utf8. absurd (none (Some d) (utf8, e)))

-- by `ErrorsAreThere`, it cannot be that a line has no answer
pub answer_there : ErrorsAreThere → (line : List ℕ) → ((answer : List ℕ) → IsAnswer line answer → ⊥) → ⊥
answer_there errors line none =
    reading_by line (read_text line) refl (λ value is.
    answers_there errors (option_and_then request_in value) (λ answer by. none answer (record { value = value; is_reading = is; answers = by })))

-- it cannot be that a line has no answer, as a statement
abbrev pub AnswersAreThere : Type 0
AnswersAreThere = (line : List ℕ) → ((answer : List ℕ) → IsAnswer line answer → ⊥) → ⊥

-- so it cannot be that lines have no answers
lines_there : AnswersAreThere → (xs : List (List ℕ)) → ((out : List ℕ) → AreAnswers xs out → ⊥) → ⊥
lines_there one [] none = none [] refl
lines_there one (line ∷ more) none =
    one line (λ first is. lines_there one more (λ rest are. none (first ++ rest) (first, rest, is, are, refl)))

-- nor that an input has no output
pub output_there : AnswersAreThere → (input : List ℕ) → ((output : List ℕ) → IsOutput input output → ⊥) → ⊥
output_there one input none = lines_there one (lines input) none
