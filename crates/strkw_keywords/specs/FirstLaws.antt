-- The first error, and all errors.
use Rattle.std.specs.Prelude.{◌≡◌, ◌∷◌, ℕ, List, Option}
use Rattle.strkw_report.specs.Kinds.{Report}
use Rattle.strkw_report.specs.declared.error.Site.{Site}
use Rattle.strkw_keywords.specs.Meanings.{Lists}
use Rattle.strkw_keywords.specs.Errors.{Assertion, NodeReports}
use Rattle.strkw_keywords.specs.Verdicts.{NodeFailsFirst}

-- the error that `validate` answers is the first of those that `collect_errors` appends
abbrev pub FirstErrorIsHead : Type 0
FirstErrorIsHead = (assertions : List Assertion) (lists : Lists) (site : Site)
    (there : Option (List ℕ)) (error : Report) (rs : List Report)
    → NodeFailsFirst assertions lists site there error → NodeReports assertions lists site there rs
    → (others : List Report) × (rs ≡ error ∷ others)
