-- On the first error of several assertions.
use Rattle.std.proofs.Common.{◌≡◌, ℕ, List, [], ◌∷◌, ◌++◌, true, Option, Some, None, Err, refl, sym, ap, ◌∙◌, subst, append_assoc}
use Rattle.std.proofs.lemmas.Option.{none-some}
use Rattle.strkw_report.specs.Kinds.{Report}
use Rattle.strkw_report.specs.declared.error.Site.{Site}
use Rattle.strkw_keywords.specs.Meanings.{Lists}
use Rattle.strkw_keywords.specs.Places.{Place, standing}
use Rattle.strkw_keywords.specs.Demands.{Demand, Finding, HasFinding, Finds, finding_list, all_quiet}
use Rattle.strkw_keywords.specs.Errors.{Assertion, assertions_at, reports_of, AllReport, NodeReports}
use Rattle.strkw_keywords.specs.Findings.{first_of}
use Rattle.strkw_keywords.specs.Verdicts.{FailsFirst, IsVerdict}
use Rattle.strkw_keywords.specs.declared.validate.Fault.{Fault}
use Rattle.strkw_keywords.specs.declared.validate.Fault.TheVariants.{Invalid, Memory}
use Rattle.strkw_coding.specs.Laws.{EncodesOnce}
use Rattle.strkw_keywords.specs.FirstLaws.{FirstErrorIsHead}
use Rattle.strkw_keywords.proofs.Asserted.{demands_of_placed}
use Rattle.strkw_keywords.proofs.Reports.{found_reports, none_found, HasFinding-unique}
use Rattle.strkw_keywords.proofs.InTurn.{in_turn, text_of_both, text_determined, nothing_split, quiet_within}

-- one silent assertion in front
behind_silent : (a : Assertion) (others : List Assertion) (lists : Lists) (site : Site) (text : List ℕ) (r : Report) → HasFinding a.demand lists text None
    → FailsFirst others lists site text r → FailsFirst (a ∷ others) lists site text r
behind_silent a others lists site text r silent f = record {
  before = a ∷ f.before;
  failed = f.failed;
  later = f.later;
  in_order = ap (λ l. a ∷ l) f.in_order;
  silent = (None, [], silent, refl, f.silent);
  found = f.found;
  fails = f.fails;
  tells = f.tells;
}

-- by the findings of the demands, by what the first of them finds
by_found : (place : Place) (d : Demand) (ds : List Demand) (lists : Lists) (site : Site) (text : List ℕ) (found : Option Finding) (rest : List Finding)
    (f : Finding) (r : Report)
    → HasFinding d lists text found → first_of (finding_list found ++ rest) ≡ Some f → reports_of (standing place site) text (Some f) ≡ r ∷ []
    → (first_of rest ≡ Some f → FailsFirst (assertions_at place ds) lists site text r)
    → FailsFirst (assertions_at place (d ∷ ds)) lists site text r
by_found place d ds lists site text None rest f r has e tells later =
    behind_silent (record { place = place; demand = d }) (assertions_at place ds) lists site text r has (later e)
by_found place d ds lists site text (Some g) rest f r has e tells later = record {
  before = [];
  failed = record { place = place; demand = d };
  later = assertions_at place ds;
  in_order = refl;
  silent = refl;
  found = g;
  fails = has;
  tells = ap (reports_of (standing place site) text) e ∙ tells;
}

-- a text fails by the first of its findings
pub fails_by_first : (place : Place) (ds : List Demand) (lists : Lists) (site : Site) (text : List ℕ) (fs : List Finding) (f : Finding) (r : Report)
    → Finds ds lists text fs → first_of fs ≡ Some f → reports_of (standing place site) text (Some f) ≡ r ∷ []
    → FailsFirst (assertions_at place ds) lists site text r
fails_by_first place [] lists site text fs f r h e tells = absurd (none-some f (ap first_of (sym h) ∙ e))
fails_by_first place (d ∷ ds) lists site text fs f r (found, rest, has, joined, others) e tells =
    by_found place d ds lists site text found rest f r has (ap first_of (sym joined) ∙ e) tells
    (λ e2. fails_by_first place ds lists site text rest f r others e2 tells)

-- without a first finding there is none
none_first : (fs : List Finding) → first_of fs ≡ None → fs ≡ []
none_first [] e = refl
none_first (f ∷ fs) e = absurd (cc)

-- and the text has no errors
pub valid_without_first : (place : Place) (ds : List Demand) (lists : Lists) (site : Site) (text : List ℕ) (fs : List Finding) → Finds ds lists text fs
    → first_of fs ≡ None → AllReport (assertions_at place ds) lists site text []
valid_without_first place ds lists site text fs h e =
    found_reports place ds lists site text [] (subst (Finds ds lists text) (none_first fs e) h)

-- ---- out of memory

-- where a text may have errors, or its demands take memory, out of memory is a verdict
pub out_of_memory_verdict : (place : Place) (ds : List Demand) (lists : Lists) (site : Site) (text : List ℕ) (fault : Fault)
    → fault ≡ Memory → (all_quiet ds ≡ true → NodeReports (assertions_at place ds) lists site (Some text) [] → ⊥)
    → IsVerdict (assertions_at place ds) lists site (Some text) (Err fault)
out_of_memory_verdict place ds lists site text fault is h =
    subst (λ f. IsVerdict (assertions_at place ds) lists site (Some text) (Err f)) (sym is)
    (λ calm. h (subst (λ l. all_quiet l ≡ true) (demands_of_placed place ds) calm))

-- a text of which something is found has an error
pub found_is_error : EncodesOnce → (place : Place) (ds : List Demand) (lists : Lists) (site : Site) (text : List ℕ) (fs : List Finding) (f : Finding)
    → Finds ds lists text fs → first_of fs ≡ Some f → NodeReports (assertions_at place ds) lists site (Some text) [] → ⊥
found_is_error once place ds lists site text fs f h e none = none-some f (sym (ap first_of (none_found once place ds lists site text fs h none)) ∙ e)

-- ---- several lists of assertions

-- the first error of a part, in front of which nothing is reported, is that of the whole
fails_within : (front mid back : List Assertion) (lists : Lists) (site : Site) (text : List ℕ) (r : Report) → AllReport front lists site text []
    → FailsFirst mid lists site text r → FailsFirst (front ++ (mid ++ back)) lists site text r
fails_within front mid back lists site text r quiet f = record {
  before = front ++ f.before;
  failed = f.failed;
  later = f.later ++ back;
  in_order = ap (λ l. front ++ (l ++ back)) f.in_order
      ∙ ap (λ l. front ++ l) (append_assoc f.before (f.failed ∷ f.later) back)
      ∙ sym (append_assoc front f.before (f.failed ∷ (f.later ++ back)));
  silent = text_of_both front f.before lists site text [] [] quiet f.silent;
  found = f.found;
  fails = f.fails;
  tells = f.tells;
}

-- the fault of a part, in front of which nothing is reported, is that of the whole
pub fault_within : (front mid back : List Assertion) (lists : Lists) (site : Site) (node : Option (List ℕ)) (fault : Fault)
    → NodeReports front lists site node [] → IsVerdict mid lists site node (Err fault) → IsVerdict (front ++ (mid ++ back)) lists site node (Err fault)
fault_within front mid back lists site None (Invalid e) quiet v = v
fault_within front mid back lists site (Some text) (Invalid e) quiet v = fails_within front mid back lists site text e quiet v
fault_within front mid back lists site there Memory quiet v = λ calm none.
    v (quiet_within front mid back calm) (nothing_split mid back lists site there (nothing_split front (mid ++ back) lists site there none).1).0

-- ---- the first error, and all errors

-- by `EncodesOnce`, the error of an assertion behind silent ones is the first of all
head_of : EncodesOnce → (before : List Assertion) (failed : Assertion) (later : List Assertion) (lists : Lists) (site : Site) (text : List ℕ) (found : Finding)
    (error : Report) (rs : List Report) → AllReport before lists site text [] → HasFinding failed.demand lists text (Some found)
    → reports_of (standing failed.place site) text (Some found) ≡ error ∷ [] → AllReport (before ++ failed ∷ later) lists site text rs → (others : List Report)
    × (rs ≡ error ∷ others)
head_of once before failed later lists site text found error rs silent fails tells h =
    let turn = (in_turn before (failed ∷ later) lists site (Some text) rs).0 h in
    let none = text_determined once before lists site text turn.early [] turn.of_first silent in
    let same = HasFinding-unique once failed.demand lists text turn.of_others.0 (Some found) turn.of_others.2 fails in (
      turn.of_others.1,
      turn.joined ∙ ap (λ l. l ++ turn.late) none ∙ turn.of_others.3
          ∙ ap (λ o. reports_of (standing failed.place site) text o ++ turn.of_others.1) same
          ∙ ap (λ l. l ++ turn.of_others.1) tells,
    )

-- by `EncodesOnce`, the error that a node fails by first is the first of all its errors
pub first_is_head : EncodesOnce → FirstErrorIsHead
first_is_head once assertions lists site None error rs f h = absurd f
first_is_head once assertions lists site (Some text) error rs f h =
    head_of once f.before f.failed f.later lists site text f.found error rs f.silent f.fails f.tells (subst (λ l. AllReport l lists site text rs) f.in_order h)
