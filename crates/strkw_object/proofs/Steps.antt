-- Steps of the compilation, one after another.
use Rattle.std.proofs.Common.{◌≡◌, ℕ, List, [], ◌∷◌, ◌++◌, Option, Some, None, refl, sym, ap, ◌∙◌, append_assoc}
use Rattle.std.proofs.lemmas.List.{append-nil}
use Rattle.strkw_report.specs.Refusals.{Refusal}
use Rattle.strkw_pattern.specs.declared.engine.Outcome.{Outcome}
use Rattle.strkw_keywords.specs.declared.validator.Validator.{Validator}
use Rattle.strkw_keywords.specs.Places.{Place}
use Rattle.strkw_keywords.specs.Errors.{assertions_at}
use Rattle.strkw_keywords.specs.Validators.{assertions_of, assertions_in, remarks_in, listed_remark, remark_made}
use Rattle.strkw_keywords.specs.Object.{Entry, nothing, malformed, gives, Keyed, refusal, refusal_or, all_demands, all_assertions, demands_by, all_remarks}
use Rattle.strkw_keywords.specs.Object.{remark_by}
use Rattle.strkw_keywords.specs.Compiled.{AddsNothing, StandsFor}
use Rattle.strkw_keywords.proofs.Asserted.{assertions_at-append}
use Rattle.strkw_object.proofs.Many.{in-append, noted-append}

-- ---- entries, one list behind another

-- an entry that is not refused passes on what comes later
passes : (place : Place) (e : Entry) (later : Option Refusal) → refusal_or place e later ≡ None
    → ((others : Option Refusal) → refusal_or place e others ≡ others) × (later ≡ None)
passes place nothing later h = ((λ others. refl), h)
passes place (malformed keyword why) later h = absurd (cc)
passes place (gives ds remark) later h = ((λ others. refl), h)

-- behind entries that are not refused, the first refusal is that of the others
pub refusal-passed : (place : Place) (es fs : List Keyed) → refusal place es ≡ None → refusal place (es ++ fs) ≡ refusal place fs
refusal-passed place [] fs h = refl
refusal-passed place (e ∷ es) fs h =
    let parts = passes place e.entry (refusal place es) h in
    parts.0 (refusal place (es ++ fs)) ∙ refusal-passed place es fs parts.1

-- the refusal of an entry, or else a later one, stays where what comes later keeps it
stays : (place : Place) (e : Entry) (later more : Option Refusal) (r : Refusal) → refusal_or place e later ≡ Some r → (later ≡ Some r → more ≡ Some r)
    → refusal_or place e more ≡ Some r
stays place nothing later more r h f = f h
stays place (malformed keyword why) later more r h f = h
stays place (gives ds remark) later more r h f = f h

-- the first refusal of entries stays the first, whatever stands behind them
pub refusal-found : (place : Place) (es fs : List Keyed) (r : Refusal) → refusal place es ≡ Some r → refusal place (es ++ fs) ≡ Some r
refusal-found place [] fs r h = absurd (cc)
refusal-found place (e ∷ es) fs r h = stays place e.entry (refusal place es) (refusal place (es ++ fs)) r h (refusal-found place es fs r)

-- what joined entries demand is what the first do, and then what the others do
all_demands-append : (es fs : List Keyed) → all_demands (es ++ fs) ≡ all_demands es ++ all_demands fs
all_demands-append [] fs = refl
all_demands-append (e ∷ es) fs =
    ap (λ l. demands_by e.entry ++ l) (all_demands-append es fs) ∙ sym (append_assoc (demands_by e.entry) (all_demands es) (all_demands fs))

-- and so it is with what they assert
all_assertions-append : (place : Place) (es fs : List Keyed) → all_assertions place (es ++ fs) ≡ all_assertions place es ++ all_assertions place fs
all_assertions-append place es fs = ap (assertions_at place) (all_demands-append es fs) ∙ assertions_at-append place (all_demands es) (all_demands fs)

-- and with what they note
all_remarks-append : (place : Place) (es fs : List Keyed) → all_remarks place (es ++ fs) ≡ all_remarks place es ++ all_remarks place fs
all_remarks-append place [] fs = refl
all_remarks-append place (e ∷ es) fs =
    ap (λ l. remark_by place e.keyword e.entry ++ l) (all_remarks-append place es fs)
    ∙ sym (append_assoc (remark_by place e.keyword e.entry) (all_remarks place es) (all_remarks place fs))

-- ---- what stands for entries

-- none of these entries is refused, and the validators assert and note what they do
pub record Stand {E : Type 0} (outcome : E → List ℕ → Outcome) (place : Place) (es : List Keyed) (vs : List (Validator E)) : Type 0 where
  pub good : refusal place es ≡ None
  pub asserts : assertions_in outcome vs ≡ all_assertions place es
  pub notes : remarks_in vs ≡ all_remarks place es

module _ {E : Type 0} (outcome : E → List ℕ → Outcome) (place : Place) where
  -- entries more that add nothing
  pub stand_still : (es fs : List Keyed) (vs : List (Validator E)) → Stand outcome place es vs → AddsNothing place fs → Stand outcome place (es ++ fs) vs
  stand_still es fs vs a b = record {
    good = refusal-passed place es fs a.good ∙ b.good;
    asserts = rw (a.asserts, all_assertions-append place es fs, b.asserts, append-nil (all_assertions place es)) refl;
    notes = rw (a.notes, all_remarks-append place es fs, b.notes, append-nil (all_remarks place es)) refl;
  }

  -- entries more for which one validator stands
  pub stand_more : (es fs : List Keyed) (vs : List (Validator E)) (v : Validator E) → Stand outcome place es vs → StandsFor outcome place fs v
      → Stand outcome place (es ++ fs) (vs ++ v ∷ [])
  stand_more es fs vs v a b = record {
    good = refusal-passed place es fs a.good ∙ b.good;
    asserts = rw (in-append outcome vs (v ∷ []), append-nil (assertions_of outcome v), a.asserts, b.asserts, all_assertions-append place es fs) refl;
    notes = rw (noted-append outcome vs (v ∷ []), append-nil (listed_remark (remark_made v)), a.notes, b.notes, all_remarks-append place es fs) refl;
  }
