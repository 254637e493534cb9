-- What one schema object says of many texts.
use Rattle.std.specs.Prelude.{◌≡◌, ◌⊎◌, ℕ, List, [], ◌∷◌, false, Option, Some, None}
use Rattle.std.specs.Prelude.{option_and_then, ⊤}
use Rattle.std.specs.Str.{IsUtf8}
use Rattle.serde_json.specs.Data.{Data, Members}
use Rattle.serde_json.specs.Find.{as_object}
use Rattle.strkw_report.specs.Refusals.{Refusal, reason_of, refusal_of, prints_float}
use Rattle.strkw_pattern.specs.declared.engine.Outcome.{Outcome}
use Rattle.strkw_keywords.specs.Meanings.{Lists}
use Rattle.strkw_keywords.specs.Errors.{NodeReports}
use Rattle.strkw_keywords.specs.Object.{Settings, Errors, FirstRefusal}
use Rattle.strkw_json.specs.Json.{IsReading}
use Rattle.strkw_report.specs.Standings.{root_site}
use Rattle.strkw_object.specs.declared.strings.StringKeywords.{StringKeywords}
use Rattle.strkw_object.specs.Compiled.{keywords_assertions}
use Rattle.strkw_c.specs.declared.schemas.Failure.{Failure}
use Rattle.strkw_c.specs.declared.schemas.Failure.TheVariants.{Memory, NoSchema, Refused}

-- ---- the schema object

-- the schema object that bytes are, or that they are none: no UTF-8 text, no JSON, or no object
abbrev pub IsSchema : List ℕ → Option Members → Type 0
IsSchema bytes schema =
    (value : Option Data) × IsReading bytes value × (schema ≡ option_and_then as_object value)

-- the bytes are a schema object, and this is its first refusal, or none of its entries is refused
abbrev pub HasFirstRefusal : Settings → List ℕ → Option Refusal → Type 0
HasFirstRefusal s bytes first =
    (schema : Members) × IsSchema bytes (Some schema) × FirstRefusal s schema first

-- Why nothing is made under settings, of the bytes of a schema, or of an object that was compiled
-- before. What is refused can be told in words.
abbrev pub FailsOn : Failure → Settings → Option (List ℕ) → Type 0
FailsOn Memory s bytes = ⊤
FailsOn NoSchema s None = ⊥
FailsOn NoSchema s (Some bytes) = IsSchema bytes None
FailsOn (Refused why) s None = ⊥
FailsOn (Refused why) s (Some bytes) =
    HasFirstRefusal s bytes (Some (refusal_of why)) × (prints_float (reason_of why.kind) ≡ false)

-- why the bytes of a schema have no verdicts
abbrev pub Fails : Failure → Settings → List ℕ → Type 0
Fails failure s bytes = FailsOn failure s (Some bytes)

-- why a schema object has none
abbrev pub FailsObject : Failure → Settings → Members → Type 0
FailsObject Memory s schema = ⊤
FailsObject NoSchema s schema = ⊥
FailsObject (Refused why) s schema =
    FirstRefusal s schema (Some (refusal_of why)) × (prints_float (reason_of why.kind) ≡ false)

-- ---- its verdicts

-- a text has no errors by a schema object
abbrev pub IsValid : Settings → Members → List ℕ → Type 0
IsValid s schema text = Errors s schema s.lists root_site (Some text) []

-- nor by a compiled one, by the outcomes of its engines and the checks that are registered
abbrev pub Passes : {E : Type 0} → (E → List ℕ → Outcome) → StringKeywords E → Lists → List ℕ
    → Type 0
Passes outcome k lists text =
    NodeReports (keywords_assertions outcome k) lists root_site (Some text) []

-- the verdict on bytes: 1 for a valid text, 0 for one that is not, 2 for bytes that are not UTF-8
abbrev pub IsVerdict : (List ℕ → Type 0) → List ℕ → ℕ → Type 0
IsVerdict Valid text verdict =
    ((verdict ≡ 1) × IsUtf8 text × Valid text) ⊎ ((verdict ≡ 0) × IsUtf8 text × (Valid text → ⊥))
    ⊎ ((verdict ≡ 2) × (IsUtf8 text → ⊥))

-- the verdicts on texts, one on each, in their order
abbrev pub AreVerdicts : (List ℕ → Type 0) → List (List ℕ) → List ℕ → Type 0
AreVerdicts Valid [] [] = ⊤
AreVerdicts Valid [] (verdict ∷ verdicts) = ⊥
AreVerdicts Valid (text ∷ texts) [] = ⊥
AreVerdicts Valid (text ∷ texts) (verdict ∷ verdicts) =
    IsVerdict Valid text verdict × AreVerdicts Valid texts verdicts
