-- Patterns of names: what a string keyword reports of a name, where it demands nothing but patterns.
use Rattle.std.proofs.Common.{◌≡◌, ◌↔◌, ℕ, List, [], ◌∷◌, ◌++◌, Bool, true, false, IsTrue, Option, Some, None, refl, sym, subst}
use Rattle.std.proofs.lemmas.Bool.{false≢true}
use Rattle.std.specs.List.{AllByRecursion}
use Rattle.std.specs.Str.{chars}
use Rattle.strkw_report.specs.Kinds.{Standing}
use Rattle.strkw_report.specs.declared.error.Site.{Site}
use Rattle.strkw_pattern.specs.declared.engine.Outcome.{Outcome}
use Rattle.strkw_pattern.specs.declared.engine.Outcome.TheVariants as outcome
use Rattle.strkw_keywords.specs.Demands.{Demand, Finding, HasFinding, compares, matches, found_by_outcome}
use Rattle.strkw_keywords.specs.Errors.{AllReport, Assertion, assertions_at, reports_of}
use Rattle.strkw_keywords.specs.Meanings.{Lists}
use Rattle.strkw_keywords.specs.Places.{Place, standing}
use Rattle.strkw_keywords.specs.Validators.{assertions_of, demands_of, place_of}
use Rattle.strkw_keywords.specs.declared.validator.Validator.{Validator}
use Rattle.neldrafi_schema.specs.Meaning.{TextReports, root_site}
use Rattle.neldrafi_schema.specs.Rules.{is_match, is_matched, meets}
use Rattle.neldrafi_schema.specs.machine.Ready.{IsPattern}
use Rattle.neldrafi_schema.proofs.Fitting.{and_left, and_right}
use Rattle.neldrafi_schema.specs.Schemas.{Header}
use Rattle.neldrafi_schema.proofs.Texts.{no_reports}

not_found : (p : List ℕ) (o : Outcome) → is_match o ≡ true → None ≡ found_by_outcome p o
not_found p outcome.Match e = refl
not_found p outcome.NoMatch e = absurd (false≢true e)
not_found p outcome.BacktrackLimit e = absurd (false≢true e)
not_found p outcome.Failed e = absurd (false≢true e)

matched : (p : List ℕ) (o : Outcome) → None ≡ found_by_outcome p o → is_match o ≡ true
matched p outcome.Match e = refl
matched p outcome.NoMatch e = cc
matched p outcome.BacktrackLimit e = cc
matched p outcome.Failed e = cc

-- ---- one demand

nothing_found : (d : Demand) (lists : Lists) (text : List ℕ) → IsPattern d → meets text d ≡ true → HasFinding d lists text None
nothing_found (compares p search) lists text is e = not_found p (search (chars text)) e
nothing_found (matches p search) lists text is e = not_found p (search (chars text)) e
nothing_found other lists text is e = absurd is

it_meets : (d : Demand) (lists : Lists) (text : List ℕ) → IsPattern d → HasFinding d lists text None → meets text d ≡ true
it_meets (compares p search) lists text is h = matched p (search (chars text)) h
it_meets (matches p search) lists text is h = matched p (search (chars text)) h
it_meets other lists text is h = absurd is

none_reported : (s : Standing) (text : List ℕ) (o : Option Finding) (rest : List _) → [] ≡ reports_of s text o ++ rest → (o ≡ None) × (rest ≡ [])
none_reported s text None rest e = (refl, sym e)
none_reported s text (Some f) rest e = cc

-- ---- several

module _ (lists : Lists) (site : Site) (text : List ℕ) where
  all_meet : (asserted : List Assertion) → AllByRecursion (λ a. IsPattern a.demand) asserted → AllReport asserted lists site text [] → is_matched text asserted ≡ true
  all_meet [] all r = refl
  all_meet (a ∷ others) all (found, rest, h, e, more) =
      let none = none_reported (standing a.place site) text found rest e in
      rw (it_meets a.demand lists text all.0 (subst (HasFinding a.demand lists text) none.0 h))
      (all_meet others all.1 (subst (AllReport others lists site text) none.1 more))

  none_report : (asserted : List Assertion) → AllByRecursion (λ a. IsPattern a.demand) asserted → is_matched text asserted ≡ true → AllReport asserted lists site text []
  none_report [] all e = refl
  none_report (a ∷ others) all e =
      (None, [], nothing_found a.demand lists text all.0 (and_left _ _ e), refl, none_report others all.1 (and_right (meets text a.demand) _ e))

asserted_patterns : (place : Place) (ds : List Demand) → AllByRecursion IsPattern ds → AllByRecursion (λ a. IsPattern a.demand) (assertions_at place ds)
asserted_patterns place [] all = tt
asserted_patterns place (d ∷ ds) all = (all.0, asserted_patterns place ds all.1)

same_test : (b c : Bool) → (IsTrue b → c ≡ true) → (c ≡ true → IsTrue b) → b ≡ c
same_test true c f g = sym (f refl)
same_test false true f g = g refl
same_test false false f g = refl

-- whether a pattern reports nothing of a name is whether it matches it
pub pattern_verdict : {E : Type 0} (outcome : E → List ℕ → Outcome) (lists : Lists) (v : Validator E) (name : List ℕ) (b : Bool)
    → AllByRecursion IsPattern (demands_of outcome v)
    → ((header : Header) (word : List ℕ) (site : Site) → IsTrue b ↔ TextReports lists header word (assertions_of outcome v) (Some name) site [])
    → b ≡ is_matched name (assertions_of outcome v)
pattern_verdict outcome lists v name b all says =
    let asserted = assertions_of outcome v in
    let patterns = asserted_patterns (place_of v) (demands_of outcome v) all in
    let verdict = says (record { location = []; absolute = []; notes = [] }) [] root_site in
    same_test b (is_matched name asserted)
    (λ t. let r = verdict.0 t in all_meet lists root_site name asserted patterns (subst (AllReport asserted lists root_site name) (no_reports _ r.0 r.2) r.1))
    (λ e. verdict.1 ([], none_report lists root_site name asserted patterns e, refl))
