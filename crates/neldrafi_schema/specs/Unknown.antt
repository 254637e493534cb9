-- Members of schema objects whose names are no keywords (Core 2020-12, section 6.5).
use Rattle.std.specs.Prelude.{◌==◌, ◌/◌, ℕ, List, [], ◌∷◌, Bool, ◌&&◌, codes, if◌then◌else◌, nat_lt}
use Rattle.std.specs.Prelude.{length, find, Option, None, unwrap_or}
use Rattle.std.specs.List.{flat_map}
use Rattle.std.specs.Option.{option_or}
use Rattle.std.specs.Str.{chars}
use Rattle.strsim.specs.Edits.{osa_table}
use Rattle.serde_json.specs.Data.{Data, Members, no_members, member}
use Rattle.strkw_report.specs.declared.draft.Draft.{Draft}
use Rattle.strkw_report.specs.declared.draft.Draft.TheVariants.{Draft202012}
use Rattle.neldrafi_schema.specs.Drafts.{draft_of, is_keyword}
use Rattle.neldrafi_schema.specs.Paths.{Path, location_of}
use Rattle.neldrafi_schema.specs.Resources.{schema_objects}

-- a member: the JSON pointer to its schema object, its name, and the keyword that was perhaps meant
pub record UnknownKeyword : Type 0 where
  pub location : List ℕ
  pub name : List ℕ
  pub nearest : Option (List ℕ)

-- ---- the keyword that was perhaps meant

-- those of all drafts: Core, sections 8, 10 and 11, and then Validation
unfoldable pub keyword_names : List (List ℕ)
keyword_names =
    codes "$schema" ∷ codes "$vocabulary" ∷ codes "$id" ∷ codes "id" ∷ codes "$ref" ∷
    codes "$anchor" ∷ codes "$dynamicRef" ∷ codes "$dynamicAnchor" ∷ codes "$recursiveRef" ∷
    codes "$recursiveAnchor" ∷ codes "$defs" ∷ codes "definitions" ∷ codes "$comment" ∷
    codes "allOf" ∷ codes "anyOf" ∷ codes "oneOf" ∷ codes "not" ∷ codes "if" ∷ codes "then" ∷
    codes "else" ∷ codes "dependentSchemas" ∷ codes "dependencies" ∷ codes "prefixItems" ∷
    codes "items" ∷ codes "additionalItems" ∷ codes "contains" ∷ codes "properties" ∷
    codes "patternProperties" ∷ codes "additionalProperties" ∷ codes "propertyNames" ∷
    codes "unevaluatedItems" ∷ codes "unevaluatedProperties" ∷ codes "type" ∷ codes "enum" ∷
    codes "const" ∷ codes "multipleOf" ∷ codes "maximum" ∷ codes "exclusiveMaximum" ∷
    codes "minimum" ∷ codes "exclusiveMinimum" ∷ codes "maxLength" ∷ codes "minLength" ∷
    codes "pattern" ∷ codes "maxItems" ∷ codes "minItems" ∷ codes "uniqueItems" ∷
    codes "maxContains" ∷ codes "minContains" ∷ codes "maxProperties" ∷ codes "minProperties" ∷
    codes "required" ∷ codes "dependentRequired" ∷ codes "title" ∷ codes "description" ∷
    codes "default" ∷ codes "deprecated" ∷ codes "readOnly" ∷ codes "writeOnly" ∷
    codes "examples" ∷ codes "format" ∷ codes "contentEncoding" ∷ codes "contentMediaType" ∷
    codes "contentSchema" ∷ []

-- how many edits lead from one name to the other: a character more or less, another one, or two
-- neighbours changed over (the distance of optimal string alignment)
abbrev pub edits : List ℕ → List ℕ → ℕ
edits a b = (osa_table (chars a) (chars b)).last_row (length (chars b))

abbrev pub is_near : Draft → List ℕ → ℕ → List ℕ → Bool
is_near draft name n other = is_keyword draft other && edits name other == n

-- the first that is a keyword of the draft, and that many edits from a name, which has at least
-- three bytes for each of them
abbrev pub first_near : Draft → List ℕ → ℕ → List (List ℕ) → Option (List ℕ)
first_near draft name n names =
    if nat_lt (length name / 3) n then None else find (is_near draft name n) names

-- one edit away, or else two
abbrev pub nearest_keyword : Draft → List ℕ → Option (List ℕ)
nearest_keyword draft name =
    option_or (first_near draft name 1 keyword_names) (first_near draft name 2 keyword_names)

-- ---- the members of a document

abbrev pub unknown : Draft → Path → List ℕ → UnknownKeyword
unknown draft path name = record {
  location = location_of path;
  name = name;
  nearest = nearest_keyword draft name;
}

-- of the members of the schema object at a path
abbrev pub unknown_among : Draft → Path → Members → List UnknownKeyword
unknown_among draft path no_members = []
unknown_among draft path (member name d ms) = if is_keyword draft name
    then unknown_among draft path ms else unknown draft path name ∷ unknown_among draft path ms

abbrev pub unknown_in : Draft → Path × Members → List UnknownKeyword
unknown_in draft o = unknown_among draft o.0 o.1

abbrev pub unknown_of_draft : Draft → Data → List UnknownKeyword
unknown_of_draft draft document = flat_map (unknown_in draft) (schema_objects draft [] document)

-- of a document of the draft of its `$schema`, or of this one, or of 2020-12
abbrev pub unknown_keywords : Option Draft → Data → List UnknownKeyword
unknown_keywords otherwise document =
    unknown_of_draft (draft_of (unwrap_or otherwise Draft202012) document) document
