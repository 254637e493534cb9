-- On refused values.
use Rattle.std.proofs.Common.{◌≡◌, ◌⊎◌, ℕ, List, [], ◌∷◌, Some, sym, ap, inl, inr, Err}
use Rattle.strkw_report.specs.Paths.{path_below}
use Rattle.strkw_report.specs.Refusals.{Reason}
use Rattle.strkw_pattern.specs.declared.engine.Outcome.{Outcome}
use Rattle.strkw_keywords.specs.declared.keyword.Keyword.{Keyword}
use Rattle.strkw_keywords.specs.declared.compile.Refused.{Refused}
use Rattle.strkw_keywords.specs.declared.compile.Refused.TheVariants.{Memory}
use Rattle.strkw_keywords.specs.Keywords.{keyword_name}
use Rattle.strkw_keywords.specs.Places.{Place}
use Rattle.strkw_keywords.specs.Object.{Entry, malformed}
use Rattle.strkw_keywords.specs.Compiled.{refused_at, IsBuilt}

-- an entry that is malformed is refused with its reason, or memory was
pub refused_value : {E : Type 0} (outcome : E → List ℕ → Outcome) (place : Place) (k blamed : Keyword) (entry : Entry) (why : Reason) (r : Refused)
    → entry ≡ malformed blamed why → (r ≡ Memory) ⊎ ((p : Place) → refused_at p r
    ≡ record { reason = why; location = path_below p.schema (keyword_name blamed) })
    → IsBuilt outcome place (record { keyword = k; entry = entry } ∷ []) (Err r)
refused_value outcome place k blamed entry why r e (inl none) = record { answer = inl none }
refused_value outcome place k blamed entry why r e (inr is) = record { answer = inr (rw e (ap Some (sym (is place)))) }
