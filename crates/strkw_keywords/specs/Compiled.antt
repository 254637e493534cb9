-- What compile functions answer.
use Rattle.std.specs.Prelude.{◌≡◌, ◌⊎◌, ℕ, List, [], ◌∷◌, Option, Some, None, Result, Ok, Err}
use Rattle.std.specs.Prelude.{if◌then◌else◌}
use Rattle.serde_json.specs.Data.{Data, Members}
use Rattle.strkw_report.specs.Paths.{path_below}
use Rattle.strkw_report.specs.Refusals.{out_of_memory, Refusal, reason_of, refusal_of}
use Rattle.strkw_report.specs.declared.refusal.CompileError.{CompileError}
use Rattle.strkw_pattern.specs.declared.engine.Outcome.{Outcome}
use Rattle.strkw_keywords.specs.declared.compile.Refused.{Refused}
use Rattle.strkw_keywords.specs.declared.compile.Refused.TheVariants.{Malformed, Memory}
use Rattle.strkw_keywords.specs.declared.validator.Validator.{Validator}
use Rattle.strkw_keywords.specs.Keywords.{keyword_name}
use Rattle.strkw_keywords.specs.declared.keyword.Keyword.TheVariants.{MinLength, MaxLength, Pattern}
use Rattle.strkw_keywords.specs.declared.options.Options.{Options}
use Rattle.strkw_keywords.specs.Object.{Settings, Entry, Keyed, AreEntriesOf, share, is_fused}
use Rattle.strkw_keywords.specs.Object.{least_entry, greatest_entry, IsPatternValue, refusal}
use Rattle.strkw_keywords.specs.Object.{all_assertions, all_remarks}
use Rattle.strkw_keywords.specs.declared.keyword.Keyword.{Keyword}
use Rattle.strkw_keywords.specs.Places.{Place}
use Rattle.strkw_keywords.specs.Validators.{place_of, assertions_of, remark_made, listed_remark}

-- out of memory: it stands at the root
abbrev pub out_of_memory_refusal : Refusal
out_of_memory_refusal = record { reason = out_of_memory; location = [] }

-- the validator stands for these entries: none of them is refused, it asserts and notes what they
-- do, and it stands where their object does
pub record StandsFor {E : Type 0} (outcome : E → List ℕ → Outcome) (place : Place) (es : List Keyed)
    (v : Validator E) : Type 0 where
  pub good : refusal place es ≡ None
  pub asserts : assertions_of outcome v ≡ all_assertions place es
  pub notes : listed_remark (remark_made v) ≡ all_remarks place es
  pub stands : place_of v ≡ place

-- one entry
abbrev pub single_entry : Keyword → Entry → List Keyed
single_entry k e = record { keyword = k; entry = e } ∷ []

-- the entries that the validator of `minLength` stands for, and those that are left to `maxLength`
abbrev pub min_share : Options → Members → List Keyed
min_share options ms = record { keyword = MinLength; entry = least_entry options ms }
    ∷ (if is_fused options ms then single_entry MaxLength (greatest_entry options ms) else [])

abbrev pub max_share : Options → Members → List Keyed
max_share options ms = if is_fused options ms then []
    else single_entry MaxLength (greatest_entry options ms)

-- these entries add nothing
pub record AddsNothing (place : Place) (es : List Keyed) : Type 0 where
  pub good : refusal place es ≡ None
  pub asserts : all_assertions place es ≡ []
  pub notes : all_remarks place es ≡ []

-- ---- what is refused, before its place is written

abbrev pub refused_at : Place → Refused → Refusal
refused_at place (Malformed keyword kind) =
    record { reason = reason_of kind; location = path_below place.schema (keyword_name keyword) }
refused_at place Memory = out_of_memory_refusal

abbrev pub IsBuiltCase : {E : Type 0} → (E → List ℕ → Outcome) → Place → List Keyed
    → Result (Option (Validator E)) Refused → Type 0
IsBuiltCase outcome place es (Ok None) = AddsNothing place es
IsBuiltCase outcome place es (Ok (Some v)) = StandsFor outcome place es v
IsBuiltCase outcome place es (Err r) = (r ≡ Memory) ⊎ (refusal place es ≡ Some (refused_at place r))

pub record IsBuilt {E : Type 0} (outcome : E → List ℕ → Outcome) (place : Place) (es : List Keyed)
    (result : Result (Option (Validator E)) Refused) : Type 0 where
  pub answer : IsBuiltCase outcome place es result

-- the same of a pattern, whose value tells which entry it is
pub record IsPatternBuilt {E : Type 0} (outcome : E → List ℕ → Outcome) (s : Settings) (d : Data)
    (result : Result (Option (Validator E)) Refused) : Type 0 where
  pub entry : Entry
  pub is_entry : IsPatternValue s d entry
  pub answer : IsBuilt outcome s.place (single_entry Pattern entry) result

-- the same of a keyword, for the entries for which its validator is to stand
pub record IsBuiltAt {E : Type 0} (outcome : E → List ℕ → Outcome) (s : Settings) (ms : Members)
    (k : Keyword) (result : Result (Option (Validator E)) Refused) : Type 0 where
  pub entries : List Keyed
  pub are_entries : AreEntriesOf s ms (share (is_fused s.options ms) k) entries
  pub answer : IsBuilt outcome s.place entries result

-- ---- answers

abbrev pub IsCompiledCase : {E : Type 0} → (E → List ℕ → Outcome) → Place → List Keyed
    → Option (Result (Validator E) CompileError) → Type 0
IsCompiledCase outcome place es None = AddsNothing place es
IsCompiledCase outcome place es (Some (Ok v)) = StandsFor outcome place es v
IsCompiledCase outcome place es (Some (Err e)) = (refusal_of e ≡ out_of_memory_refusal)
    ⊎ (refusal place es ≡ Some (refusal_of e))

-- the answer for some entries: that they add nothing, what stands for them, or the first refusal,
-- or out of memory
pub record IsCompiled {E : Type 0} (outcome : E → List ℕ → Outcome) (place : Place)
    (es : List Keyed) (result : Option (Result (Validator E) CompileError)) : Type 0 where
  pub answer : IsCompiledCase outcome place es result

-- the answer for a keyword: that of the entries for which its validator is to stand
pub record IsCompiledAt {E : Type 0} (outcome : E → List ℕ → Outcome) (s : Settings) (ms : Members)
    (k : Keyword) (result : Option (Result (Validator E) CompileError)) : Type 0 where
  pub entries : List Keyed
  pub are_entries : AreEntriesOf s ms (share (is_fused s.options ms) k) entries
  pub answer : IsCompiled outcome s.place entries result
