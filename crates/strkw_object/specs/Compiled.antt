-- What a compiled schema object stands for.
use Rattle.std.specs.Prelude.{◌≡◌, ℕ, List, None}
use Rattle.serde_json.specs.Data.{Members}
use Rattle.strkw_pattern.specs.declared.engine.Outcome.{Outcome}
use Rattle.strkw_keywords.specs.Demands.{Demand}
use Rattle.strkw_keywords.specs.Errors.{Assertion}
use Rattle.strkw_keywords.specs.Remarks.{Remark}
use Rattle.strkw_keywords.specs.Validators.{demands_in, assertions_in, remarks_in}
use Rattle.strkw_keywords.specs.Object.{Settings, Keyed, AreEntries, refusal, all_assertions}
use Rattle.strkw_keywords.specs.Object.{all_remarks}
use Rattle.strkw_formats.specs.Formats.{Window}
use Rattle.strkw_keywords.specs.Lengths.{interval}
use Rattle.strkw_object.specs.declared.strings.StringKeywords.{StringKeywords}

-- what a compiled object asserts, by the outcomes of its engines
abbrev pub keywords_assertions : {E : Type 0} → (E → List ℕ → Outcome) → StringKeywords E
    → List Assertion
keywords_assertions outcome k = assertions_in outcome k.validators.items

-- what it demands of a text, wherever it stands
abbrev pub keywords_demands : {E : Type 0} → (E → List ℕ → Outcome) → StringKeywords E → List Demand
keywords_demands outcome k = demands_in outcome k.validators.items

-- the lengths that it leaves to a text
abbrev pub keywords_interval : {E : Type 0} → (E → List ℕ → Outcome) → StringKeywords E → Window
keywords_interval outcome k = interval (keywords_demands outcome k)

-- and what it notes of texts
abbrev pub keywords_remarks : {E : Type 0} → StringKeywords E → List Remark
keywords_remarks k = remarks_in k.validators.items

-- The compiled object asserts and notes what the entries of the schema object do, none of which is
-- malformed.
pub record IsCompiledFrom {E : Type 0} (outcome : E → List ℕ → Outcome) (s : Settings)
    (ms : Members) (k : StringKeywords E) : Type 0 where
  pub entries : List Keyed
  pub are_entries : AreEntries s ms entries
  pub good : refusal s.place entries ≡ None
  pub asserts : keywords_assertions outcome k ≡ all_assertions s.place entries
  pub notes : keywords_remarks k ≡ all_remarks s.place entries
