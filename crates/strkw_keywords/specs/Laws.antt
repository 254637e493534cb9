-- What holds of the errors and the notes that keywords report.
use Rattle.std.specs.Prelude.{◌≡◌, ◌↔◌, ℕ, ◌<◌, List, [], ◌∷◌, ◌++◌, Option, Some, None, slice_get}
use Rattle.std.specs.Str.{chars}
use Rattle.serde_json.specs.Data.{Members}
use Rattle.strkw_report.specs.Kinds.{Kind, Report, report_at, regex_engine_failure}
use Rattle.strkw_report.specs.Kinds.{backtrack_limit_exceeded}
use Rattle.strkw_report.specs.declared.error.Site.{Site}
use Rattle.strkw_pattern.specs.declared.engine.Outcome.{Outcome}
use Rattle.strkw_pattern.specs.declared.engine.Outcome.TheVariants as outcome
use Rattle.strkw_keywords.specs.declared.keyword.Keyword.TheVariants.{Pattern}
use Rattle.strkw_keywords.specs.Keywords.{keyword_name}
use Rattle.strkw_keywords.specs.Meanings.{Lists, first_named}
use Rattle.strkw_keywords.specs.Places.{Place, standing}
use Rattle.strkw_keywords.specs.Demands.{at_least, at_most, matches, IsInUse}
use Rattle.strkw_keywords.specs.Errors.{Assertion, assertions_at, NodeReports}
use Rattle.strkw_keywords.specs.Remarks.{Remark, annotation_of}
use Rattle.strkw_keywords.specs.Object.{Settings, Keyed, AreEntries, all_demands, Errors}

-- these are the errors that the first assertions report, and then those that the others report
pub record ReportInTurn (first others : List Assertion) (lists : Lists) (site : Site)
    (node : Option (List ℕ)) (rs : List Report) : Type 0 where
  pub early : List Report
  pub late : List Report
  pub of_first : NodeReports first lists site node early
  pub of_others : NodeReports others lists site node late
  pub joined : rs ≡ early ++ late

-- assertions report one after the other
abbrev pub AssertionsReportInTurn : Type 0
AssertionsReportInTurn = (first others : List Assertion) (lists : Lists) (site : Site)
    (node : Option (List ℕ)) (rs : List Report)
    → NodeReports (first ++ others) lists site node rs
    ↔ ReportInTurn first others lists site node rs

-- both limits at once report what each reports alone, the least length first
abbrev pub FusedLengthsReportBoth : Type 0
FusedLengthsReportBoth = (place : Place) (low high : ℕ) (lists : Lists) (site : Site)
    (node : Option (List ℕ)) (rs : List Report)
    → NodeReports (assertions_at place (at_least low ∷ at_most high ∷ [])) lists site node rs
    ↔ ReportInTurn (assertions_at place (at_least low ∷ []))
    (assertions_at place (at_most high ∷ [])) lists site
    node rs

-- a node that is no text has no errors and no annotation
pub record OthersHaveNone : Type 0 where
  pub errors : (assertions : List Assertion) (lists : Lists) (site : Site) (rs : List Report)
      → NodeReports assertions lists site None rs ↔ (rs ≡ [])
  pub annotation : (remark : Option Remark) → annotation_of remark None ≡ None

-- this outcome of an engine is one error, of this kind, at `pattern`
abbrev pub IsOneError : Outcome → (List ℕ → Kind) → Type 0
IsOneError failed kind = (place : Place) (pattern : List ℕ) (outcome_on : List ℕ → Outcome)
    (lists : Lists) (site : Site) (text : List ℕ) (rs : List Report)
    → outcome_on (chars text) ≡ failed
    → NodeReports (assertions_at place (matches pattern outcome_on ∷ [])) lists site (Some text) rs
    ↔ (rs ≡ report_at (standing place site) (keyword_name Pattern) (kind pattern) text ∷ [])

-- an engine that fails, or gives up, makes the text invalid by one error of its own kind
pub record EngineFailuresAreErrors : Type 0 where
  pub failed : IsOneError outcome.Failed regex_engine_failure
  pub gave_up : IsOneError outcome.BacktrackLimit backtrack_limit_exceeded

-- a node has at most one list of errors by some assertions
abbrev pub ReportsAreDetermined : Type 0
ReportsAreDetermined = (assertions : List Assertion) (lists : Lists) (site : Site)
    (node : Option (List ℕ)) (rs others : List Report)
    → NodeReports assertions lists site node rs → NodeReports assertions lists site node others
    → rs ≡ others

-- and it cannot be that it has none
abbrev pub ReportsAreThere : Type 0
ReportsAreThere = (assertions : List Assertion) (lists : Lists) (site : Site)
    (node : Option (List ℕ))
    → ((rs : List Report) → NodeReports assertions lists site node rs → ⊥) → ⊥

-- a node has at most one by a schema object
abbrev pub ErrorsAreDetermined : Type 0
ErrorsAreDetermined = (s : Settings) (ms : Members) (lists : Lists) (site : Site)
    (node : Option (List ℕ)) (rs others : List Report)
    → Errors s ms lists site node rs → Errors s ms lists site node others → rs ≡ others

-- and it cannot be that it has none
abbrev pub ErrorsAreThere : Type 0
ErrorsAreThere = (s : Settings) (ms : Members) (lists : Lists) (site : Site)
    (node : Option (List ℕ))
    → ((rs : List Report) → Errors s ms lists site node rs → ⊥) → ⊥

-- what is compiled under some lists is in use with them
abbrev pub CompiledIsInUse : Type 0
CompiledIsInUse = (s : Settings) (ms : Members) (es : List Keyed) → AreEntries s ms es
    → IsInUse (all_demands es) s.lists

-- the row that counts is the first of its name, and there is none exactly where no row has the name
pub record FirstRowCounts : Type 0 where
  pub found : (name : List ℕ) (names : List (List ℕ)) (at : ℕ) → (first_named name names ≡ Some at)
      ↔ ((slice_get names at ≡ Some name) × ((i : ℕ) → i < at → slice_get names i ≡ Some name → ⊥))
  pub not_found : (name : List ℕ) (names : List (List ℕ)) → (first_named name names ≡ None)
      ↔ ((i : ℕ) → slice_get names i ≡ Some name → ⊥)
