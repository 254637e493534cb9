-- A line has one answer, and an input one output.
use Rattle.std.proofs.Common.{◌≡◌, inl, inr, ℕ, List, [], ◌∷◌, ◌++◌, Bool, true, false, Option, Some, None, refl, sym, ap, ◌∙◌, subst, codes, option_and_then}
use Rattle.serde_json.specs.Data.{Data, Members}
use Rattle.strkw_report.specs.Kinds.{Report}
use Rattle.strkw_report.specs.Refusals.{Refusal}
use Rattle.strkw_report.specs.declared.error.Site.{Site}
use Rattle.strkw_keywords.specs.Meanings.{Lists, no_lists}
use Rattle.strkw_keywords.specs.Remarks.{Remark}
use Rattle.strkw_keywords.specs.Object.{Settings, Errors, FirstRefusal, Notes}
use Rattle.strkw_json.specs.Json.{IsReading}
use Rattle.strkw_cli.specs.Request.{Request, request_in}
use Rattle.strkw_print.specs.Printed.{note_lines}
use Rattle.strkw_cli.specs.Lines.{lines}
use Rattle.strkw_keywords.specs.Folding.{FoldsToFalse}
use Rattle.strkw_report.specs.Standings.{root_site}
use Rattle.strkw_cli.specs.Answer.{settings_for, verdict_lines, TellsFold, AnswersBy, Answers, IsAnswer, AreAnswers, IsOutput}

-- what a schema object means is determined
-- what the first refusal of a schema object is, if there is one, is determined
abbrev pub OneRefusal : Type 0
OneRefusal = (s : Settings) (ms : Members) (a b : Option Refusal) → FirstRefusal s ms a → FirstRefusal s ms b → a ≡ b

-- an instance has one list of errors at most by a schema object
abbrev pub OneListOfErrors : Type 0
OneListOfErrors = (s : Settings) (ms : Members) (lists : Lists) (site : Site) (instance : Option (List ℕ)) (a b : List Report)
    → Errors s ms lists site instance a → Errors s ms lists site instance b → a ≡ b

-- an instance has one list of notes at most by a schema object
abbrev pub OneListOfNotes : Type 0
OneListOfNotes = (s : Settings) (ms : Members) (instance : Option (List ℕ)) (a b : List Remark) → Notes s ms instance a → Notes s ms instance b → a ≡ b

-- what is told of folding is determined
TellsFold-unique : (asked : Bool) (P : Type 0) (a b : List ℕ) → TellsFold asked P a → TellsFold asked P b → a ≡ b
TellsFold-unique false P a b p q = p ∙ sym q
TellsFold-unique true P a b (inl p) (inl q) = p.1 ∙ sym q.1
TellsFold-unique true P a b (inl p) (inr q) = absurd (q.0 p.0)
TellsFold-unique true P a b (inr p) (inl q) = absurd (p.0 q.0)
TellsFold-unique true P a b (inr p) (inr q) = p.1 ∙ sym q.1

-- so the answer to a request by its first refusal, or where it has none, is determined
by_unique : OneListOfErrors → OneListOfNotes → (why : Option Refusal) (r : Request) (a b : List ℕ) → AnswersBy why r a → AnswersBy why r b → a ≡ b
by_unique errors notes (Some w) r a b p q = p ∙ sym q
by_unique errors notes None r a b (told, es, ns, tells, are, noted, e) (said, fs, ms, tells2, are2, noted2, f) =
    let alone = TellsFold-unique r.fold (FoldsToFalse (settings_for r) r.schema) told said tells tells2 in
    let same = errors (settings_for r) r.schema no_lists root_site r.instance es fs are are2 in
    let alike = notes (settings_for r) r.schema r.instance ns ms noted noted2 in
    e ∙ ap (λ l. l ++ (verdict_lines es ++ note_lines ns ++ codes "end\n")) alone
    ∙ ap (λ l. said ++ (verdict_lines l ++ note_lines ns ++ codes "end\n")) same
    ∙ ap (λ l. said ++ (verdict_lines fs ++ note_lines l ++ codes "end\n")) alike ∙ sym f

-- and so is the answer to a request, or to what is none
Answers-unique : OneRefusal → OneListOfErrors → OneListOfNotes → (r : Option Request) (a b : List ℕ) → Answers r a → Answers r b → a ≡ b
Answers-unique refusals errors notes None a b p q = p ∙ sym q
Answers-unique refusals errors notes (Some r) a b (w, first, by) (v, second, by2) =
    by_unique errors notes v r a b (subst (λ x. AnswersBy x r a) (refusals (settings_for r) r.schema w v first second) by) by2

-- a line has one reading
IsReading-unique : (line : List ℕ) (a b : Option Data) → IsReading line a → IsReading line b → a ≡ b
IsReading-unique line None None p q = refl
IsReading-unique line None (Some d) p (utf8, is) = sym (p utf8) ∙ is
IsReading-unique line (Some d) None (utf8, is) q = sym is ∙ q utf8
IsReading-unique line (Some d) (Some e) (utf8, is) (utf8b, is2) = sym is ∙ is2

-- so a line has one answer at most
pub IsAnswer-unique : OneRefusal → OneListOfErrors → OneListOfNotes → (line a b : List ℕ) → IsAnswer line a → IsAnswer line b → a ≡ b
IsAnswer-unique refusals errors notes line a b p q =
    let same = IsReading-unique line p.value q.value p.is_reading q.is_reading in
    Answers-unique refusals errors notes (option_and_then request_in q.value) a b (subst (λ v. Answers (option_and_then request_in v) a) same p.answers)
    q.answers

-- the same, as a statement
abbrev pub OneAnswer : Type 0
OneAnswer = (line a b : List ℕ) → IsAnswer line a → IsAnswer line b → a ≡ b

-- so the joined answers to lines are determined
AreAnswers-unique : OneAnswer → (xs : List (List ℕ)) (a b : List ℕ) → AreAnswers xs a → AreAnswers xs b → a ≡ b
AreAnswers-unique one [] a b p q = p ∙ sym q
AreAnswers-unique one (line ∷ more) a b (f, r, is, are, e) (g, t, is2, are2, e2) =
    e ∙ ap (λ z. z ++ r) (one line f g is is2) ∙ ap (λ z. g ++ z) (AreAnswers-unique one more r t are are2) ∙ sym e2

-- and an input has one output at most
pub IsOutput-unique : OneAnswer → (input a b : List ℕ) → IsOutput input a → IsOutput input b → a ≡ b
IsOutput-unique one input a b p q = AreAnswers-unique one (lines input) a b p q
