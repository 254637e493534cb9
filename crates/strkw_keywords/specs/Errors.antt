-- The errors that a node has of what keywords demand.
use Rattle.std.specs.Prelude.{◌≡◌, ℕ, List, [], ◌∷◌, ◌++◌, map, Option, Some, None, MatchOption}
use Rattle.strkw_report.specs.Kinds.{Standing, Report, report_at}
use Rattle.strkw_report.specs.declared.error.Site.{Site}
use Rattle.strkw_keywords.specs.Keywords.{keyword_name}
use Rattle.strkw_keywords.specs.Meanings.{Lists}
use Rattle.strkw_keywords.specs.Places.{Place, standing}
use Rattle.strkw_keywords.specs.Demands.{Demand, Finding, HasFinding}

-- a demand, and where the schema object stands that makes it
pub record Assertion : Type 0 where
  pub place : Place
  pub demand : Demand

abbrev pub assertions_at : Place → List Demand → List Assertion
assertions_at place ds = map (λ d. record { place = place; demand = d }) ds

-- what is demanded, wherever
abbrev pub demands_asserted : List Assertion → List Demand
demands_asserted assertions = map (λ a. a.demand) assertions

-- the error of a finding on a text
abbrev pub reports_of : Standing → List ℕ → Option Finding → List Report
reports_of s text None = []
reports_of s text (Some f) = report_at s (keyword_name f.keyword) f.kind text ∷ []

-- these are the errors of a text by several assertions, in their order
abbrev pub AllReport : List Assertion → Lists → Site → List ℕ → List Report → Type 0
AllReport [] lists site text rs = rs ≡ []
AllReport (a ∷ others) lists site text rs = (found : Option Finding) × (rest : List Report)
    × HasFinding a.demand lists text found
    × (rs ≡ reports_of (standing a.place site) text found ++ rest)
    × AllReport others lists site text rest

-- the same of a node, which has none where it is no text
abbrev pub NodeReports : List Assertion → Lists → Site → Option (List ℕ) → List Report → Type 0
NodeReports assertions lists site node rs =
    MatchOption node (rs ≡ []) (λ text. AllReport assertions lists site text rs)

-- new is old, and behind it a list that has P
pub record Appends (P : List Report → Type 0) (old new : List Report) : Type 0 where
  pub added : List Report
  pub grown : new ≡ old ++ added
  pub reported : P added
