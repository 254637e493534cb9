-- Objects that fold to false: their validators, one after the other, and what may stand for them.
use Rattle.std.proofs.Common.{◌≡◌, ◌<◌, ◌≤◌, ◌↔◌, ℕ, ◌+◌, ◌-◌, ◌^◌, List, [], length, get_or, take, Option, Some, None, refl, sym, ap, ap₂, subst, ◌∙◌, arith}
use Rattle.std.specs.Prelude.{min, max, unwrap_or, nat_lt, IsTrue}
use Rattle.std.specs.Str.{chars}
use Rattle.serde_json.specs.Data.{Members}
use Rattle.strkw_report.specs.declared.error.Site.{Site}
use Rattle.strkw_pattern.specs.declared.engine.Outcome.{Outcome}
use Rattle.strkw_keywords.specs.Meanings.{Lists}
use Rattle.strkw_formats.specs.Formats.{Window, bounds}
use Rattle.strkw_keywords.specs.Errors.{NodeReports}
use Rattle.strkw_keywords.specs.Object.{Settings, Errors}
use Rattle.strkw_keywords.specs.Lengths.{IsEmpty, interval, OutsideIsAnError}
use Rattle.strkw_keywords.specs.Folding.{FoldsToFalse, RefusesTexts, AcceptAlike, FoldedRefuseTexts}
use Rattle.strkw_keywords.specs.declared.validator.Validator.{Validator}
use Rattle.strkw_keywords.specs.Validators.{demands_of, demands_in, assertions_in}
use Rattle.strkw_keywords.proofs.Intervals.{interval_append, ends_in_common, empty_by_numbers}
use Rattle.strkw_keywords.proofs.Entries.{entries_exist}
use Rattle.strkw_object.proofs.Many.{demands_more, demands_are_asserted}

-- ---- what folds is refused

-- a node that is a text has an error, where no length is left
pub refused_node : {E : Type 0} → OutsideIsAnError → (outcome : E → List ℕ → Outcome) (vs : List (Validator E)) (lists : Lists) (site : Site)
    (instance : Option (List ℕ)) (text : List ℕ)
    → IsEmpty (interval (demands_in outcome vs)) → instance ≡ Some text
    → NodeReports (assertions_in outcome vs) lists site instance [] → ⊥
refused_node outside outcome vs lists site instance text empty e reports =
    let none = subst (λ ds. IsEmpty (interval ds)) (sym (demands_are_asserted outcome vs)) empty in
    outside (assertions_in outcome vs) lists site text (none (length (chars text)))
    (subst (λ n. NodeReports (assertions_in outcome vs) lists site n []) e reports)

-- a node that is no text is accepted by every schema object
other_nodes : (s : Settings) (ms : Members) (lists : Lists) (site : Site) → Errors s ms lists site None []
other_nodes s ms lists site = let es = entries_exist s ms in (es.0, es.1, refl)

-- by `FoldedRefuseTexts`, an object that folds to false accepts the same nodes as any that refuses all texts
pub folded_replaced : FoldedRefuseTexts → (s t : Settings) (ms others : Members) → FoldsToFalse s ms → RefusesTexts t others → AcceptAlike s ms t others
folded_replaced law s t ms others folds refuses lists site None = ((λ h. other_nodes t others lists site), (λ h. other_nodes s ms lists site))
folded_replaced law s t ms others folds refuses lists site (Some text) =
    ((λ h. absurd (law s ms folds lists site text h)), (λ h. absurd (refuses lists site text h)))

-- ---- the loop over validators

-- the greatest number of 64 bits
abbrev pub top : ℕ
top = 2 ^ 64 - 1

-- these are the ends of a window
pub record AreEnds (least greatest : ℕ) (w : Window) : Type 0 where
  pub low : least ≡ w.least
  pub high : greatest ≡ unwrap_or w.greatest top
  pub low_fits : least ≤ top
  pub high_fits : greatest ≤ top

module _ {E : Type 0} (outcome : E → List ℕ → Outcome) where
  -- with one validator more, the greater lower end and the lesser upper end are those of the interval
  pub ends_more : (vs : List (Validator E)) (i : ℕ) (v : Validator E) (least greatest low high : ℕ) → i < length vs → v ≡ get_or vs i v
      → AreEnds least greatest (interval (demands_in outcome (take i vs))) → (low, high) ≡ bounds (interval (demands_of outcome v)) → low ≤ top → high ≤ top
      → AreEnds (max least low) (min greatest high) (interval (demands_in outcome (take (i + 1) vs)))
  ends_more vs i v least greatest low high h e before one l g =
      let whole = ap interval (demands_more outcome vs i v h e) ∙ interval_append (demands_in outcome (take i vs)) (demands_of outcome v) in
      let v_low : low ≡ (interval (demands_of outcome v)).least = ap (λ (p : ℕ × ℕ). p.0) one in
      let v_high : high ≡ unwrap_or (interval (demands_of outcome v)).greatest top = ap (λ (p : ℕ × ℕ). p.1) one in
      let fit = ends_in_common (interval (demands_in outcome (take i vs))).greatest (interval (demands_of outcome v)).greatest top
      (subst (λ x. x ≤ top) before.high before.high_fits) (subst (λ x. x ≤ top) v_high g) in
      record {
        low = ap₂ max before.low v_low ∙ ap (λ w. w.least) (sym whole);
        high = ap₂ min before.high v_high ∙ sym fit ∙ ap (λ w. unwrap_or w.greatest top) (sym whole);
        low_fits = omega (arith, before.low_fits, l);
        high_fits = omega (arith, before.high_fits, g);
      }

-- the greatest end is less than the least exactly where the window is empty
pub empty_at_end : (least greatest : ℕ) (w : Window) → AreEnds least greatest w → IsTrue (nat_lt greatest least) ↔ IsEmpty w
empty_at_end least greatest w e =
    rw (e.high, e.low) (empty_by_numbers w top (subst (λ x. x ≤ top) e.low e.low_fits))
