-- What several validators assert and note.
use Rattle.std.proofs.Common.{◌≡◌, ◌<◌, ℕ, zero, suc, ◌+◌, List, [], ◌∷◌, ◌++◌, Bool, true, false, Option, Some, None, Err, refl, sym, ap, ap₂, ◌∙◌, subst}
use Rattle.std.proofs.Common.{length, get_or, take, arith, append_assoc, ◌&&◌}
use Rattle.std.proofs.lemmas.Bool.{true_from_ne_false}
use Rattle.std.proofs.lemmas.List.{append-nil, take_more}
use Rattle.strkw_report.specs.Kinds.{Report}
use Rattle.strkw_report.specs.declared.error.Site.{Site}
use Rattle.strkw_pattern.specs.declared.engine.Outcome.{Outcome}
use Rattle.strkw_keywords.specs.Meanings.{Lists}
use Rattle.strkw_keywords.specs.Demands.{Demand, IsInUse, all_quiet}
use Rattle.strkw_keywords.specs.Errors.{Assertion, NodeReports, demands_asserted, Appends}
use Rattle.strkw_keywords.specs.Verdicts.{IsVerdict}
use Rattle.strkw_keywords.specs.declared.validate.Fault.{Fault}
use Rattle.strkw_keywords.proofs.Asserted.{demands_of_placed, demands_of_joined}
use Rattle.strkw_keywords.proofs.First.{fault_within}
use Rattle.strkw_keywords.proofs.InTurn.{in_turn, nothing_split, quiet-append}
use Rattle.strkw_keywords.specs.declared.validator.Validator.{Validator}
use Rattle.strkw_keywords.specs.Validators.{place_of, demands_of, demands_in, assertions_of, assertions_in, remarks_in, listed_remark, remark_made}

-- the errors by one list of assertions, and then by another
pub report_append : (front back : List Assertion) (lists : Lists) (site : Site) (at : Option (List ℕ)) (es fs : List Report)
    → NodeReports front lists site at es → NodeReports back lists site at fs → NodeReports (front ++ back) lists site at (es ++ fs)
report_append front back lists site at es fs a b = (in_turn front back lists site at (es ++ fs)).1
    (record { early = es; late = fs; of_first = a; of_others = b; joined = refl })

-- where nothing is asserted, nothing is reported of a node
pub nothing_asserted : (lists : Lists) (site : Site) (at : Option (List ℕ)) → NodeReports [] lists site at []
nothing_asserted lists site None = refl
nothing_asserted lists site (Some text) = refl

-- nothing is added where nothing is asserted
pub nothing_yet : (lists : Lists) (site : Site) (at : Option (List ℕ)) (old : List Report) → Appends (NodeReports [] lists site at) old old
nothing_yet lists site None old = record { added = []; grown = sym (append-nil old); reported = refl }
nothing_yet lists site (Some text) old = record { added = []; grown = sym (append-nil old); reported = refl }

-- where joined demands are in use, both parts are
pub use_split : (lists : Lists) (front back : List Demand) → IsInUse (front ++ back) lists → IsInUse front lists × IsInUse back lists
use_split lists [] back u = (tt, u)
use_split lists (x ∷ front) back u = let below = use_split lists front back u.1 in ((u.0, below.0), below.1)

-- and where both parts are in use, so are the joined demands
pub use_append : (lists : Lists) (front back : List Demand) → IsInUse front lists → IsInUse back lists → IsInUse (front ++ back) lists
use_append lists [] back u w = w
use_append lists (x ∷ front) back u w = (u.0, use_append lists front back u.1 w)

module _ {E : Type 0} (outcome : E → List ℕ → Outcome) where
  -- what joined validators assert is what the first do, and then what the others do
  pub in-append : (vs ws : List (Validator E)) → assertions_in outcome (vs ++ ws) ≡ assertions_in outcome vs ++ assertions_in outcome ws
  in-append [] ws = refl
  in-append (v ∷ vs) ws = ap (λ l. assertions_of outcome v ++ l) (in-append vs ws)
      ∙ sym (append_assoc (assertions_of outcome v) (assertions_in outcome vs) (assertions_in outcome ws))

  -- and so it is with what they note
  pub noted-append : (vs ws : List (Validator E)) → remarks_in (vs ++ ws) ≡ remarks_in vs ++ remarks_in ws
  noted-append [] ws = refl
  noted-append (v ∷ vs) ws = ap (λ l. listed_remark (remark_made v) ++ l) (noted-append vs ws)
      ∙ sym (append_assoc (listed_remark (remark_made v)) (remarks_in vs) (remarks_in ws))

  -- and with what they demand
  pub demands-append : (vs ws : List (Validator E)) → demands_in outcome (vs ++ ws) ≡ demands_in outcome vs ++ demands_in outcome ws
  demands-append [] ws = refl
  demands-append (v ∷ vs) ws =
      ap (λ l. demands_of outcome v ++ l) (demands-append vs ws)
      ∙ sym (append_assoc (demands_of outcome v) (demands_in outcome vs) (demands_in outcome ws))

  -- what validators assert is what they demand
  pub demands_are_asserted : (vs : List (Validator E)) → demands_asserted (assertions_in outcome vs) ≡ demands_in outcome vs
  demands_are_asserted [] = refl
  demands_are_asserted (v ∷ vs) =
      demands_of_joined (assertions_of outcome v) (assertions_in outcome vs)
      ∙ ap₂ (λ ds es. ds ++ es) (demands_of_placed (place_of v) (demands_of outcome v)) (demands_are_asserted vs)

  -- the validators up to one more
  pub in_more : (vs : List (Validator E)) (i : ℕ) (v : Validator E) → i < length vs → v ≡ get_or vs i v
      → assertions_in outcome (take (i + 1) vs) ≡ assertions_in outcome (take i vs) ++ assertions_of outcome v
  in_more vs i v h e = rw (take_more vs i v h, ← e, in-append (take i vs) (v ∷ []), append-nil (assertions_of outcome v))

  -- what the validators up to one more demand
  pub demands_more : (vs : List (Validator E)) (i : ℕ) (v : Validator E) → i < length vs → v ≡ get_or vs i v
      → demands_in outcome (take (i + 1) vs) ≡ demands_in outcome (take i vs) ++ demands_of outcome v
  demands_more vs i v h e = rw (take_more vs i v h, ← e, demands-append (take i vs) (v ∷ []), append-nil (demands_of outcome v))

  -- where what all validators demand is in use, so is what each of them demands
  pub in_use_at : (lists : Lists) (vs : List (Validator E)) (i : ℕ) (v : Validator E) → i < length vs → v ≡ get_or vs i v
      → IsInUse (demands_in outcome vs) lists → IsInUse (demands_of outcome v) lists
  in_use_at lists [] i v h e u = absurd (omega (arith, h))
  in_use_at lists (w ∷ vs) zero v h e u = rw e (use_split lists (demands_of outcome w) (demands_in outcome vs) u).0
  in_use_at lists (w ∷ vs) (suc i) v h e u = in_use_at lists vs i v (omega (arith, h)) e (use_split lists (demands_of outcome w) (demands_in outcome vs) u).1

  -- where all validators report nothing, so does each of them
  pub nothing_at : (lists : Lists) (site : Site) (there : Option (List ℕ)) (vs : List (Validator E)) (i : ℕ) (v : Validator E) → i < length vs
      → v ≡ get_or vs i v → NodeReports (assertions_in outcome vs) lists site there [] → NodeReports (assertions_of outcome v) lists site there []
  nothing_at lists site there [] i v h e u = absurd (omega (arith, h))
  nothing_at lists site there (w ∷ vs) zero v h e u = rw e (nothing_split (assertions_of outcome w) (assertions_in outcome vs) lists site there u).0
  nothing_at lists site there (w ∷ vs) (suc i) v h e u = nothing_at lists site there vs i v (omega (arith, h)) e
      (nothing_split (assertions_of outcome w) (assertions_in outcome vs) lists site there u).1

  -- where those so far and the next are silent at every site, so are those up to one more
  pub nothing_more : (lists : Lists) (there : Option (List ℕ)) (vs : List (Validator E)) (i : ℕ) (v : Validator E) → i < length vs → v ≡ get_or vs i v
      → ((site : Site) → NodeReports (assertions_in outcome (take i vs)) lists site there [])
      → ((site : Site) → NodeReports (assertions_of outcome v) lists site there []) → (site : Site)
      → NodeReports (assertions_in outcome (take (i + 1) vs)) lists site there []
  nothing_more lists there vs i v h e a b site = rw (in_more vs i v h e)
      (report_append (assertions_in outcome (take i vs)) (assertions_of outcome v) lists site there [] [] (a site) (b site))

  -- what one validator more adds
  pub collected_more : (lists : Lists) (site : Site) (there : Option (List ℕ)) (vs : List (Validator E)) (i : ℕ) (v : Validator E) (old mid new : List Report)
      → i < length vs → v ≡ get_or vs i v → Appends (NodeReports (assertions_in outcome (take i vs)) lists site there) old mid
      → Appends (NodeReports (assertions_of outcome v) lists site there) mid new
      → Appends (NodeReports (assertions_in outcome (take (i + 1) vs)) lists site there) old new
  collected_more lists site there vs i v old mid new h e a b = record {
    added = a.added ++ b.added;
    grown = b.grown ∙ ap (λ l. l ++ b.added) a.grown ∙ append_assoc old a.added b.added;
    reported = rw (in_more vs i v h e) (report_append (assertions_in outcome (take i vs)) (assertions_of outcome v) lists site there a.added b.added a.reported
        b.reported);
  }

  -- what is asserted in front of one validator, by it, and behind it
  split_at : (vs : List (Validator E)) (i : ℕ) (v : Validator E) → i < length vs → v ≡ get_or vs i v → (later : List Assertion)
      × (assertions_in outcome vs ≡ assertions_in outcome (take i vs) ++ (assertions_of outcome v ++ later))
  split_at [] i v h e = absurd (omega (arith, h))
  split_at (w ∷ vs) zero v h e = (assertions_in outcome vs, ap (λ x. assertions_of outcome x ++ assertions_in outcome vs) (sym e))
  split_at (w ∷ vs) (suc i) v h e =
      let (later, same) = split_at vs i v (omega (arith, h)) e in (
        later,
        ap (λ l. assertions_of outcome w ++ l) same ∙ sym (append_assoc (assertions_of outcome w) (assertions_in outcome (take i vs))
            (assertions_of outcome v ++ later)),
      )

  -- the fault of one validator, in front of which nothing is reported
  pub fault_at : (lists : Lists) (site : Site) (there : Option (List ℕ)) (vs : List (Validator E)) (i : ℕ) (v : Validator E) (fault : Fault) → i < length vs
      → v ≡ get_or vs i v → NodeReports (assertions_in outcome (take i vs)) lists site there []
      → IsVerdict (assertions_of outcome v) lists site there (Err fault) → IsVerdict (assertions_in outcome vs) lists site there (Err fault)
  fault_at lists site there vs i v fault h e quiet verdict =
      let (later, same) = split_at vs i v h e in
      subst (λ l. IsVerdict l lists site there (Err fault)) (sym same)
      (fault_within (assertions_in outcome (take i vs)) (assertions_of outcome v) later lists site there fault quiet verdict)

  -- the same at one site
  pub silent_more : (lists : Lists) (site : Site) (there : Option (List ℕ)) (vs : List (Validator E)) (i : ℕ) (v : Validator E) → i < length vs
      → v ≡ get_or vs i v → NodeReports (assertions_in outcome (take i vs)) lists site there [] → NodeReports (assertions_of outcome v) lists site there []
      → NodeReports (assertions_in outcome (take (i + 1) vs)) lists site there []
  silent_more lists site there vs i v h e a b = rw (in_more vs i v h e)
      (report_append (assertions_in outcome (take i vs)) (assertions_of outcome v) lists site there [] [] a b)

  -- the remarks up to one more
  pub remarks_more : (vs : List (Validator E)) (i : ℕ) (v : Validator E) → i < length vs → v ≡ get_or vs i v
      → remarks_in (take (i + 1) vs) ≡ remarks_in (take i vs) ++ listed_remark (remark_made v)
  remarks_more vs i v h e = rw (take_more vs i v h, ← e, noted-append (take i vs) (v ∷ []), append-nil (listed_remark (remark_made v))) refl

-- ---- memory

-- two conditions of which the second does not hold do not hold together
and_false : (a : Bool) → (a && false) ≡ false
and_false true = refl
and_false false = refl

module _ {E : Type 0} (outcome : E → List ℕ → Outcome) where
  -- where one validator is not quiet, not all of them are
  pub loud_at : (vs : List (Validator E)) (i : ℕ) (v : Validator E) → i < length vs → v ≡ get_or vs i v → all_quiet (demands_of outcome v) ≡ false
      → all_quiet (demands_in outcome vs) ≡ false
  loud_at [] i v h e q = absurd (omega (arith, h))
  loud_at (w ∷ vs) zero v h e q = rw (quiet-append (demands_of outcome w) (demands_in outcome vs), ← e, q) refl
  loud_at (w ∷ vs) (suc i) v h e q = rw (
    quiet-append (demands_of outcome w) (demands_in outcome vs),
    loud_at vs i v (omega (arith, h)) e q,
    and_false
        (all_quiet (demands_of outcome w)),
  ) refl

  -- where all validators are quiet, each of them is
  pub quiet_at : (vs : List (Validator E)) (i : ℕ) (v : Validator E) → i < length vs → v ≡ get_or vs i v → all_quiet (demands_in outcome vs) ≡ true
      → all_quiet (demands_of outcome v) ≡ true
  quiet_at vs i v h e q = true_from_ne_false (all_quiet (demands_of outcome v)) (λ loud. let f = loud_at vs i v h e loud in cc)

  -- where the validators so far and the next are quiet, so are those up to one more
  pub quiet_more : (vs : List (Validator E)) (i : ℕ) (v : Validator E) → i < length vs → v ≡ get_or vs i v → all_quiet (demands_in outcome (take i vs)) ≡ true
      → all_quiet (demands_of outcome v) ≡ true → all_quiet (demands_in outcome (take (i + 1) vs)) ≡ true
  quiet_more vs i v h e before one = rw (demands_more outcome vs i v h e, quiet-append (demands_in outcome (take i vs)) (demands_of outcome v), before, one)
      refl
