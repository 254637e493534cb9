-- The answer to a line, and to lines: a relation, since it stands on facts that no test decides.
use Rattle.std.specs.Prelude.{◌≡◌, ◌⊎◌, ℕ, List, [], ◌∷◌, ◌++◌, Bool, true, false, Option, Some}
use Rattle.std.specs.Prelude.{None}
use Rattle.std.specs.Prelude.{option_and_then, codes}
use Rattle.serde_json.specs.Data.{Data}
use Rattle.strkw_report.specs.Kinds.{Report}
use Rattle.strkw_report.specs.Refusals.{Refusal}
use Rattle.strkw_report.specs.Standings.{root_site}
use Rattle.strkw_keywords.specs.Meanings.{no_lists}
use Rattle.strkw_keywords.specs.Remarks.{Remark}
use Rattle.strkw_keywords.specs.Object.{Settings, Errors, FirstRefusal, Notes}
use Rattle.strkw_keywords.specs.Folding.{FoldsToFalse}
use Rattle.strkw_json.specs.Json.{IsReading}
use Rattle.strkw_print.specs.Printed.{error_lines, note_lines, refused_line}
use Rattle.strkw_cache.specs.Cached.{settings_under}
use Rattle.strkw_cli.specs.Request.{Request, request_in}
use Rattle.strkw_cli.specs.Lines.{lines}

-- what the schema object of a request is compiled under: its terms
abbrev pub settings_for : Request → Settings
settings_for r = settings_under (record {
  draft = r.draft;
  validate_formats = r.validate_formats;
  ignore_unknown_formats = r.ignore_unknown_formats;
})

-- the errors, or that there are none
abbrev pub verdict_lines : List Report → List ℕ
verdict_lines [] = codes "valid\n"
verdict_lines (r ∷ rs) = error_lines (r ∷ rs)

-- what is told of folding: nothing where it is not asked, or else whether P holds
abbrev pub TellsFold : Bool → Type 0 → List ℕ → Type 0
TellsFold false P told = told ≡ []
TellsFold true P told = (P × (told ≡ codes "fold true\n"))
    ⊎ ((P → ⊥) × (told ≡ codes "fold false\n"))

-- the answer to a request, by the first refusal of its schema object
abbrev pub AnswersBy : Option Refusal → Request → List ℕ → Type 0
AnswersBy (Some why) r answer = answer ≡ refused_line why ++ codes "end\n"
AnswersBy None r answer = (told : List ℕ) × (errors : List Report) × (notes : List Remark)
    × TellsFold r.fold (FoldsToFalse (settings_for r) r.schema) told
    × Errors (settings_for r) r.schema no_lists root_site r.instance errors
    × Notes (settings_for r) r.schema r.instance notes
    × (answer ≡ told ++ (verdict_lines errors ++ note_lines notes ++ codes "end\n"))

-- the answer to a request, or to what is none
abbrev pub Answers : Option Request → List ℕ → Type 0
Answers None answer = answer ≡ codes "bad request\nend\n"
Answers (Some r) answer = (first : Option Refusal) × FirstRefusal (settings_for r) r.schema first
    × AnswersBy first r answer

-- The answer to one line.
pub record IsAnswer (line answer : List ℕ) : Type 0 where
  pub value : Option Data
  pub is_reading : IsReading line value
  pub answers : Answers (option_and_then request_in value) answer

-- the answers to lines, joined
abbrev pub AreAnswers : List (List ℕ) → List ℕ → Type 0
AreAnswers [] out = out ≡ []
AreAnswers (line ∷ more) out = (first : List ℕ) × (rest : List ℕ) × IsAnswer line first
    × AreAnswers more rest × (out ≡ first ++ rest)

-- The output for an input: the answers to its lines, joined.
abbrev pub IsOutput : List ℕ → List ℕ → Type 0
IsOutput input out = AreAnswers (lines input) out
