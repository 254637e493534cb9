-- On the errors of assertions, one after the other.
use Rattle.std.proofs.Common.{◌≡◌, ◌↔◌, ℕ, List, [], ◌∷◌, ◌++◌, Bool, true, false, ◌&&◌, Option, Some, None, refl, sym, ap, ◌∙◌, subst}
use Rattle.std.specs.Str.{chars}
use Rattle.std.proofs.lemmas.List.{append_assoc}
use Rattle.strkw_report.specs.Kinds.{Report, report_at, regex_engine_failure, backtrack_limit_exceeded}
use Rattle.strkw_report.specs.declared.error.Site.{Site}
use Rattle.strkw_coding.specs.Laws.{EncodesOnce}
use Rattle.strkw_pattern.specs.declared.engine.Outcome.{Outcome}
use Rattle.strkw_keywords.specs.declared.keyword.Keyword.TheVariants.{Pattern}
use Rattle.strkw_keywords.specs.Keywords.{keyword_name}
use Rattle.strkw_keywords.specs.Meanings.{Lists}
use Rattle.strkw_keywords.specs.Places.{Place, standing}
use Rattle.strkw_keywords.specs.Demands.{at_least, at_most, matches, Finding, found_by_outcome, is_quiet, all_quiet, Demand}
use Rattle.strkw_keywords.specs.Errors.{Assertion, assertions_at, reports_of, AllReport, NodeReports, demands_asserted}
use Rattle.strkw_keywords.specs.Laws.{ReportInTurn, AssertionsReportInTurn, FusedLengthsReportBoth, EngineFailuresAreErrors, ReportsAreDetermined}
use Rattle.strkw_keywords.proofs.Asserted.{demands_of_joined}
use Rattle.strkw_keywords.proofs.Reports.{HasFinding-unique}

-- ---- joined

-- the errors of a text by joined assertions are those by each part in turn
text_in_turn : (first others : List Assertion) (lists : Lists) (site : Site) (text : List ℕ) (rs : List Report) → AllReport (first ++ others) lists site text rs
    → ReportInTurn first others lists site (Some text) rs
text_in_turn [] others lists site text rs h = record { early = []; late = rs; of_first = refl; of_others = h; joined = refl }
text_in_turn (a ∷ first) others lists site text rs h =
    let later = text_in_turn first others lists site text h.1 h.4 in
    let mine = reports_of (standing a.place site) text h.0 in
    record {
      early = mine ++ later.early;
      late = later.late;
      of_first = (h.0, later.early, h.2, refl, later.of_first);
      of_others = later.of_others;
      joined = h.3 ∙ ap (λ l. mine ++ l) later.joined ∙ sym (append_assoc mine later.early later.late);
    }

-- and those by each part in turn are its errors by joined assertions
pub text_of_both : (first others : List Assertion) (lists : Lists) (site : Site) (text : List ℕ) (early late : List Report)
    → AllReport first lists site text early → AllReport others lists site text late → AllReport (first ++ others) lists site text (early ++ late)
text_of_both [] others lists site text early late h k = rw h k
text_of_both (a ∷ first) others lists site text early late h k = (
  h.0,
  h.1 ++ late,
  h.2,
  ap (λ l. l ++ late) h.3 ∙ append_assoc (reports_of (standing a.place site) text h.0) h.1 late,
  text_of_both first others lists site text h.1 late h.4 k,
)

-- the errors of a node by joined assertions are exactly those by each part in turn
pub in_turn : AssertionsReportInTurn
in_turn first others lists site None rs = (
  (λ h. record { early = []; late = []; of_first = refl; of_others = refl; joined = h }),
  (λ r. r.joined ∙ ap (λ l. l ++ r.late) r.of_first ∙ r.of_others),
)
in_turn first others lists site (Some text) rs = (
  (λ h. text_in_turn first others lists site text rs h),
  (λ r. rw r.joined (text_of_both first others lists site text r.early r.late r.of_first r.of_others)),
)

-- both limits at once report what each reports alone, the least length first
pub fused : FusedLengthsReportBoth
fused place low high lists site node rs = in_turn (assertions_at place (at_least low ∷ [])) (assertions_at place (at_most high ∷ [])) lists site node rs

-- where nothing is reported, no part reports anything
no_part : (P Q : List Report → Type 0) (early late : List Report) → [] ≡ early ++ late → P early → Q late → P [] × Q []
no_part P Q [] late joined p q = (p, subst Q (sym joined) q)
no_part P Q (r ∷ early) late joined p q = absurd (cc)

-- where joined assertions report nothing, neither part reports anything
pub nothing_split : (front back : List Assertion) (lists : Lists) (site : Site) (at : Option (List ℕ)) → NodeReports (front ++ back) lists site at []
    → NodeReports front lists site at [] × NodeReports back lists site at []
nothing_split front back lists site at a =
    let turn = (in_turn front back lists site at []).0 a in
    no_part (NodeReports front lists site at) (NodeReports back lists site at) turn.early turn.late turn.joined turn.of_first turn.of_others

-- ---- one error

-- where the outcome of an engine is a finding, its error alone is reported of the text
one_error : (place : Place) (pattern : List ℕ) (outcome_on : List ℕ → Outcome) (lists : Lists) (site : Site) (text : List ℕ) (rs : List Report) (f : Finding)
    → found_by_outcome pattern (outcome_on (chars text)) ≡ Some f
    → NodeReports (assertions_at place (matches pattern outcome_on ∷ [])) lists site (Some text) rs
    ↔ (rs ≡ report_at (standing place site) (keyword_name f.keyword) f.kind text ∷ [])
one_error place pattern outcome_on lists site text rs f e = (
  (λ h. h.3 ∙ ap (λ o. reports_of (standing place site) text o ++ h.1) (h.2 ∙ e) ∙ ap (λ l. reports_of (standing place site) text (Some f) ++ l) h.4),
  (λ r. (Some f, [], sym e, r, refl)),
)

-- an engine that fails, or gives up, makes the text invalid by one error of its own kind
pub failures : EngineFailuresAreErrors
failures = record {
  failed = λ place p o lists site text rs e. one_error place p o lists site text rs (record { keyword = Pattern; kind = regex_engine_failure p })
      (ap (found_by_outcome p) e);
  gave_up = λ place p o lists site text rs e. one_error place p o lists site text rs (record { keyword = Pattern; kind = backtrack_limit_exceeded p })
      (ap (found_by_outcome p) e);
}

-- ---- determined

-- the same assertions first, and then others that report the same
pub same_reports : EncodesOnce → (first xs ys : List Assertion) (lists : Lists) (site : Site) (text : List ℕ)
    → ((rs others : List Report) → AllReport xs lists site text rs → AllReport ys lists site text others → rs ≡ others)
    → (rs others : List Report) → AllReport (first ++ xs) lists site text rs → AllReport (first ++ ys) lists site text others → rs ≡ others
same_reports once [] xs ys lists site text same rs others h k = same rs others h k
same_reports once (a ∷ first) xs ys lists site text same rs others h k =
    let found = HasFinding-unique once a.demand lists text h.0 k.0 h.2 k.2 in
    let rest = same_reports once first xs ys lists site text same h.1 k.1 h.4 k.4 in
    h.3 ∙ ap (λ o. reports_of (standing a.place site) text o ++ h.1) found ∙ ap (λ l. reports_of (standing a.place site) text k.0 ++ l) rest ∙ sym k.3

-- by `EncodesOnce`, a text has one list of errors at most by some assertions
pub text_determined : EncodesOnce → (assertions : List Assertion) (lists : Lists) (site : Site) (text : List ℕ) (rs others : List Report)
    → AllReport assertions lists site text rs → AllReport assertions lists site text others → rs ≡ others
text_determined once [] lists site text rs others h k = h ∙ sym k
text_determined once (a ∷ rest) lists site text rs others h k =
    same_reports once (a ∷ []) rest rest lists site text (text_determined once rest lists site text) rs others h k

-- by `EncodesOnce`, a node has one list of errors at most by some assertions
pub reports_determined : EncodesOnce → ReportsAreDetermined
reports_determined once assertions lists site None rs others h k = h ∙ sym k
reports_determined once assertions lists site (Some text) rs others h k = text_determined once assertions lists site text rs others h k

-- ---- memory

-- of three conditions it is no matter which two are joined first
and_assoc : (a b c : Bool) → (a && (b && c)) ≡ ((a && b) && c)
and_assoc true b c = refl
and_assoc false b c = refl

-- joined demands are quiet exactly where both parts are
pub quiet-append : (front back : List Demand) → all_quiet (front ++ back) ≡ (all_quiet front && all_quiet back)
quiet-append [] back = refl
quiet-append (d ∷ front) back = ap (λ b. is_quiet d && b) (quiet-append front back) ∙ and_assoc (is_quiet d) (all_quiet front) (all_quiet back)

-- what joined assertions demand is quiet exactly where what both parts demand is
asserted-quiet-append : (front back : List Assertion)
    → all_quiet (demands_asserted (front ++ back)) ≡ (all_quiet (demands_asserted front) && all_quiet (demands_asserted back))
asserted-quiet-append front back =
    ap all_quiet (demands_of_joined front back) ∙ quiet-append (demands_asserted front) (demands_asserted back)

-- where two conditions hold together, each of them holds
and_true : (a b : Bool) → (a && b) ≡ true → (a ≡ true) × (b ≡ true)
and_true true b e = (refl, e)
and_true false b e = absurd (cc)

-- what is within quiet assertions is quiet
pub quiet_within : (front mid back : List Assertion)
    → all_quiet (demands_asserted (front ++ (mid ++ back))) ≡ true → all_quiet (demands_asserted mid) ≡ true
quiet_within front mid back e =
    let front_is = all_quiet (demands_asserted front) in
    let mid_is = all_quiet (demands_asserted mid) in
    let behind = (and_true front_is (all_quiet (demands_asserted (mid ++ back))) (sym (asserted-quiet-append front (mid ++ back)) ∙ e)).1 in
    (and_true mid_is (all_quiet (demands_asserted back)) (sym (asserted-quiet-append mid back) ∙ behind)).0
