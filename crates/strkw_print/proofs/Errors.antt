-- The lines of errors, as they are written one validator after another.
use Rattle.std.proofs.Common.{◌≡◌, ℕ, ◌<◌, ◌+◌, List, [], ◌++◌, Option, Some, None, refl, sym, ap, ◌∙◌, length, get_or, take}
use Rattle.std.proofs.Common.{append_assoc}
use Rattle.std.proofs.lemmas.List.{append-nil}
use Rattle.std.proofs.lemmas.List.Concat.{flat_map-append}
use Rattle.strkw_report.specs.Kinds.{Report, Standing}
use Rattle.strkw_pattern.specs.declared.engine.Outcome.{Outcome}
use Rattle.strkw_keywords.specs.Meanings.{Lists}
use Rattle.strkw_keywords.specs.Places.{Place, standing}
use Rattle.strkw_keywords.specs.Demands.{Demand, Finding, Finds, finding_list}
use Rattle.strkw_keywords.specs.Errors.{assertions_at, reports_of, NodeReports}
use Rattle.strkw_keywords.specs.Validators.{assertions_of, assertions_in}
use Rattle.strkw_keywords.specs.declared.validator.Validator.{Validator}
use Rattle.strkw_keywords.proofs.Reports.{errors_of, found_reports}
use Rattle.strkw_report.specs.Standings.{root_site}
use Rattle.strkw_print.specs.Printed.{error_line, error_lines}
use Rattle.strkw_object.proofs.Many.{nothing_asserted, report_append, in_more}

-- new is old, and behind it the lines of errors that have P
pub record AppendsLines (P : List Report → Type 0) (old new : List ℕ) : Type 0 where
  pub errors : List Report
  pub grown : new ≡ old ++ error_lines errors
  pub reported : P errors

-- ---- one validator

-- the lines of two findings, which may be missing, are those of each in turn
two_lines : (s : Standing) (text : List ℕ) (a b : Option Finding)
    → error_lines (errors_of s text (finding_list a ++ finding_list b)) ≡ error_lines (reports_of s text a) ++ error_lines (reports_of s text b)
two_lines s text None None = refl
two_lines s text None (Some f) = refl
two_lines s text (Some f) None = sym (append-nil (error_lines (reports_of s text (Some f))))
two_lines s text (Some f) (Some g) = flat_map-append error_line (reports_of s text (Some f)) (reports_of s text (Some g))

-- the lines of two findings of a text, in turn, are those of its errors by the demands
pub of_text : (place : Place) (ds : List Demand) (lists : Lists) (text : List ℕ) (a b : Option Finding) (old mid new : List ℕ)
    → Finds ds lists text (finding_list a ++ finding_list b)
    → mid ≡ old ++ error_lines (reports_of (standing place root_site) text a) → new ≡ mid ++ error_lines (reports_of (standing place root_site) text b)
    → AppendsLines (NodeReports (assertions_at place ds) lists root_site (Some text)) old new
of_text place ds lists text a b old mid new finds first second =
    let s = standing place root_site in record {
      errors = errors_of s text (finding_list a ++ finding_list b);
      grown = second ∙ ap (λ l. l ++ error_lines (reports_of s text b)) first ∙ append_assoc old (error_lines (reports_of s text a))
          (error_lines (reports_of s text b))
          ∙ ap (λ l. old ++ l) (sym (two_lines s text a b));
      reported = found_reports place ds lists root_site text (finding_list a ++ finding_list b) finds;
    }

-- ---- several

-- nothing is written where nothing is asserted
pub nothing_written : (lists : Lists) (there : Option (List ℕ)) (old : List ℕ) → AppendsLines (NodeReports [] lists root_site there) old old
nothing_written lists there old = record { errors = []; grown = sym (append-nil old); reported = nothing_asserted lists root_site there }

-- the lines up to one validator more
pub written_more : {E : Type 0} (outcome : E → List ℕ → Outcome) (lists : Lists) (there : Option (List ℕ)) (vs : List (Validator E)) (i : ℕ) (v : Validator E)
    (old mid new : List ℕ)
    → i < length vs → v ≡ get_or vs i v → AppendsLines (NodeReports (assertions_in outcome (take i vs)) lists root_site there) old mid
    → AppendsLines (NodeReports (assertions_of outcome v) lists root_site there) mid new
    → AppendsLines (NodeReports (assertions_in outcome (take (i + 1) vs)) lists root_site there) old new
written_more outcome lists there vs i v old mid new h e a b = record {
  errors = a.errors ++ b.errors;
  grown = b.grown ∙ ap (λ l. l ++ error_lines b.errors) a.grown ∙ append_assoc old (error_lines a.errors) (error_lines b.errors)
      ∙ ap (λ l. old ++ l) (sym (flat_map-append error_line a.errors b.errors));
  reported = rw (in_more outcome vs i v h e) (report_append (assertions_in outcome (take i vs)) (assertions_of outcome v) lists root_site there a.errors
      b.errors a.reported b.reported);
}
