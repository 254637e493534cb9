-- What the validators demand and note.
use Rattle.std.specs.Prelude.{ℕ, List, [], ◌∷◌, ◌++◌, Option, Some, None, string_bytes}
use Rattle.serde_json.specs.Data.{string}
use Rattle.serde_json.specs.View.{view}
use Rattle.strkw_pattern.specs.declared.engine.Outcome.{Outcome}
use Rattle.strkw_pattern.specs.Matcher.{literal_outcome}
use Rattle.strkw_keywords.specs.declared.keyword.Keyword.TheVariants.{Format}
use Rattle.strkw_formats.specs.Formats.{format_name}
use Rattle.strkw_keywords.specs.Meanings.{builtin, row}
use Rattle.strkw_keywords.specs.Choices.{choice_of}
use Rattle.strkw_keywords.specs.Places.{Place}
use Rattle.strkw_keywords.specs.Demands.{Demand, is_media_type, is_encoded, encodes_media_type}
use Rattle.strkw_keywords.specs.Demands.{is_format, at_least, at_most, compares, matches}
use Rattle.strkw_keywords.specs.Errors.{Assertion, assertions_at}
use Rattle.strkw_keywords.specs.Remarks.{Remark, remark_at}
use Rattle.strkw_keywords.specs.declared.validator.Validator.{Validator}
use Rattle.strkw_keywords.specs.declared.validator.Validator.TheVariants as any

-- what a validator says: the place of its schema object, what it demands of a text by the meaning
-- of engines, and what it notes of one
pub record Said (E : Type 0) : Type 0 where
  pub place : Place
  pub demands : (E → List ℕ → Outcome) → List Demand
  pub remark : Option Remark

-- it says the same by whatever engine
abbrev pub says : {E : Type 0} → Place → List Demand → Option Remark → Said E
says place demands remark = record { place = place; demands = λ outcome. demands; remark = remark }

-- and it notes nothing
abbrev pub asks : {E : Type 0} → Place → List Demand → Said E
asks place demands = says place demands None

abbrev pub said_by : {E : Type 0} → Validator E → Said E
said_by (any.ContentMediaType v) = asks v.origin (is_media_type (choice_of v.test.media_type) ∷ [])
said_by (any.ContentEncoding v) = asks v.origin (is_encoded (choice_of v.test.codec) ∷ [])
said_by (any.ContentMediaTypeAndEncoding v) =
    asks v.origin (encodes_media_type (choice_of v.test.codec) (choice_of v.test.media_type) ∷ [])
said_by (any.ContentMediaTypeAnnotation v) =
    says v.origin [] (Some (remark_at v.origin.schema v.test.keyword (view v.test.value)))
said_by (any.ContentEncodingAnnotation v) =
    says v.origin [] (Some (remark_at v.origin.schema v.test.keyword (view v.test.value)))
said_by (any.ContentSchemaAnnotation v) =
    says v.origin [] (Some (remark_at v.origin.schema v.test.keyword (view v.test.value)))
said_by (any.Format v) =
    says v.origin (is_format (builtin v.test.format) ∷ [])
    (Some (remark_at v.origin.schema Format (string (format_name v.test.format))))
said_by (any.CustomFormat v) =
    says v.origin (is_format (row v.test.position (string_bytes v.test.name)) ∷ [])
    (Some (remark_at v.origin.schema Format (string (string_bytes v.test.name))))
said_by (any.AnnotationOnlyFormat v) =
    says v.origin [] (Some (remark_at v.origin.schema v.test.keyword (view v.test.value)))
said_by (any.MinLength v) = asks v.origin (at_least v.test.limit ∷ [])
said_by (any.MaxLength v) = asks v.origin (at_most v.test.limit ∷ [])
said_by (any.LengthRange v) = asks v.origin (at_least v.test.min ∷ at_most v.test.max ∷ [])
said_by (any.PrefixPattern v) =
    asks v.origin (compares (string_bytes v.test.pattern) (literal_outcome v.test.matcher) ∷ [])
said_by (any.ExactPattern v) =
    asks v.origin (compares (string_bytes v.test.pattern) (literal_outcome v.test.matcher) ∷ [])
said_by (any.AlternationPattern v) =
    asks v.origin (compares (string_bytes v.test.pattern) (literal_outcome v.test.matcher) ∷ [])
said_by (any.NoWhitespacePattern v) =
    asks v.origin (compares (string_bytes v.test.pattern) (literal_outcome v.test.matcher) ∷ [])
said_by (any.Pattern v) = record {
  place = v.origin;
  demands = λ outcome. matches (string_bytes v.test.pattern) (outcome v.test.engine) ∷ [];
  remark = None;
}

abbrev pub place_of : {E : Type 0} → Validator E → Place
place_of v = (said_by v).place

abbrev pub demands_of : {E : Type 0} → (E → List ℕ → Outcome) → Validator E → List Demand
demands_of outcome v = (said_by v).demands outcome

abbrev pub remark_made : {E : Type 0} → Validator E → Option Remark
remark_made v = (said_by v).remark

abbrev pub assertions_of : {E : Type 0} → (E → List ℕ → Outcome) → Validator E → List Assertion
assertions_of outcome v = assertions_at (place_of v) (demands_of outcome v)

-- what several validators demand, in their order
abbrev pub demands_in : {E : Type 0} → (E → List ℕ → Outcome) → List (Validator E) → List Demand
demands_in outcome [] = []
demands_in outcome (v ∷ vs) = demands_of outcome v ++ demands_in outcome vs

-- what several validators assert, in their order
abbrev pub assertions_in : {E : Type 0} → (E → List ℕ → Outcome) → List (Validator E)
    → List Assertion
assertions_in outcome [] = []
assertions_in outcome (v ∷ others) = assertions_of outcome v ++ assertions_in outcome others

abbrev pub listed_remark : Option Remark → List Remark
listed_remark None = []
listed_remark (Some r) = r ∷ []

-- and what they note
abbrev pub remarks_in : {E : Type 0} → List (Validator E) → List Remark
remarks_in [] = []
remarks_in (v ∷ others) = listed_remark (remark_made v) ++ remarks_in others
