-- The drafts: their names in `$schema`, and which keywords each has.
use Rattle.std.specs.Prelude.{◌==◌, ℕ, List, [], ◌∷◌, ◌++◌, Bool, true, false, not, ◌&&◌, ◌||◌, Option, Some, None}
use Rattle.std.specs.Prelude.{codes, nat_le, if◌then◌else◌, is_some, option_and_then, unwrap_or}
use Rattle.std.specs.List.{list_all, list_any}
use Rattle.std.specs.Char.{is_ascii_alphanumeric, is_ascii_alphabetic}
use Rattle.std.specs.Str.{byte, bytes_eq}
use Rattle.serde_json.specs.Data.{Data, Members}
use Rattle.serde_json.specs.Find.{get, get_member, as_bool, as_str}
use Rattle.strkw_report.specs.declared.draft.Draft.{Draft}
use Rattle.strkw_report.specs.declared.draft.Draft.TheVariants.{Draft4, Draft6, Draft7, Draft201909, Draft202012}
use Rattle.strkw_keywords.specs.declared.keyword.Keyword.TheVariants as text
use Rattle.strkw_keywords.specs.Keywords.{keyword_name}
use Rattle.neldrafi_schema.specs.declared.limits.Limit.TheVariants as limit
use Rattle.neldrafi_schema.specs.declared.limits.Size.TheVariants as size
use Rattle.neldrafi_schema.specs.declared.node.Part.TheVariants as part
use Rattle.neldrafi_schema.specs.declared.known.Known.{Known}
use Rattle.neldrafi_schema.specs.declared.known.Known.TheVariants as known

-- ---- `$schema` (Core 2020-12, section 8.1.1)

-- with or without an empty fragment
abbrev pub is_uri : List ℕ → List ℕ → Bool
is_uri uri text = bytes_eq text uri || bytes_eq text (uri ++ codes "#")

abbrev pub draft_named : List ℕ → Option Draft
draft_named text =
    if is_uri (codes "http://json-schema.org/draft-04/schema") text then Some Draft4
    else (if is_uri (codes "http://json-schema.org/draft-06/schema") text then Some Draft6
    else (if is_uri (codes "http://json-schema.org/draft-07/schema") text then Some Draft7
    else (if is_uri (codes "https://json-schema.org/draft/2019-09/schema") text
    then Some Draft201909
    else (if is_uri (codes "https://json-schema.org/draft/2020-12/schema") text
    then Some Draft202012 else None))))

-- the draft of a document: that of its `$schema`, or else this one
abbrev pub draft_of : Draft → Data → Draft
draft_of otherwise document = unwrap_or
    (option_and_then draft_named (option_and_then as_str (get (codes "$schema") document))) otherwise

-- ---- keywords

abbrev pub reference_name : List ℕ
reference_name = codes "$ref"

-- the keyword of a name in Core, section 8, in whichever draft
unfoldable pub core_named : List ℕ → Known
core_named name =
    if bytes_eq name (codes "$schema") then known.Dialect
    else (if bytes_eq name reference_name then known.Reference
    else (if bytes_eq name (codes "id") then known.Draft4Identifier
    else (if bytes_eq name (codes "$id") then known.Identifier
    else (if bytes_eq name (codes "$anchor") then known.Anchor
    else (if bytes_eq name (codes "$dynamicRef") then known.DynamicReference
    else (if bytes_eq name (codes "$dynamicAnchor") then known.DynamicAnchor
    else (if bytes_eq name (codes "$recursiveRef") then known.RecursiveReference
    else (if bytes_eq name (codes "$recursiveAnchor") then known.RecursiveAnchor
    else (if bytes_eq name (codes "definitions") then known.Definitions
    else (if bytes_eq name (codes "$defs") then known.Defs
    else (if bytes_eq name (codes "$comment") then known.Comment
    else (if bytes_eq name (codes "$vocabulary") then known.Vocabulary
    else known.Unknown))))))))))))

-- and of Core, sections 10 and 11
unfoldable pub applicator_named : List ℕ → Known
applicator_named name =
    if bytes_eq name (codes "dependencies") then known.Dependencies
    else (if bytes_eq name (codes "properties") then known.Properties
    else (if bytes_eq name (codes "patternProperties") then known.PatternProperties
    else (if bytes_eq name (codes "additionalProperties") then known.AdditionalProperties
    else (if bytes_eq name (codes "propertyNames") then known.PropertyNames
    else (if bytes_eq name (codes "items") then known.Items
    else (if bytes_eq name (codes "additionalItems") then known.AdditionalItems
    else (if bytes_eq name (codes "contains") then known.Contains
    else (if bytes_eq name (codes "prefixItems") then known.PrefixItems
    else (if bytes_eq name (codes "dependentSchemas") then known.DependentSchemas
    else (if bytes_eq name (codes "unevaluatedProperties") then known.Unevaluated part.Members
    else (if bytes_eq name (codes "unevaluatedItems") then known.Unevaluated part.Items
    else (if bytes_eq name (codes "allOf") then known.AllOf
    else (if bytes_eq name (codes "anyOf") then known.AnyOf
    else (if bytes_eq name (codes "oneOf") then known.OneOf
    else (if bytes_eq name (codes "not") then known.Not
    else (if bytes_eq name (codes "if") then known.If
    else (if bytes_eq name (codes "then") then known.Then
    else (if bytes_eq name (codes "else") then known.Else
    else core_named name))))))))))))))))))

-- the keyword of a name, in whichever draft: the others are of Validation
abbrev pub named : List ℕ → Known
named name =
    if bytes_eq name (codes "type") then known.Types
    else (if bytes_eq name (codes "enum") then known.Enumeration
    else (if bytes_eq name (codes "const") then known.Constant
    else (if bytes_eq name (codes "multipleOf") then known.MultipleOf
    else (if bytes_eq name (codes "minimum") then known.Limited limit.Minimum
    else (if bytes_eq name (codes "exclusiveMinimum") then known.Limited limit.ExclusiveMinimum
    else (if bytes_eq name (codes "maximum") then known.Limited limit.Maximum
    else (if bytes_eq name (codes "exclusiveMaximum") then known.Limited limit.ExclusiveMaximum
    else (if bytes_eq name (codes "minItems") then known.Sized size.MinItems
    else (if bytes_eq name (codes "maxItems") then known.Sized size.MaxItems
    else (if bytes_eq name (codes "minProperties") then known.Sized size.MinProperties
    else (if bytes_eq name (codes "maxProperties") then known.Sized size.MaxProperties
    else (if bytes_eq name (codes "uniqueItems") then known.UniqueItems
    else (if bytes_eq name (codes "required") then known.Required
    else (if bytes_eq name (codes "minContains") then known.ContainsCount
    else (if bytes_eq name (codes "maxContains") then known.ContainsCount
    else (if bytes_eq name (codes "dependentRequired") then known.DependentRequired
    else (if bytes_eq name (keyword_name text.Format) then known.Text text.Format
    else (if bytes_eq name (keyword_name text.MinLength) then known.Text text.MinLength
    else (if bytes_eq name (keyword_name text.MaxLength) then known.Text text.MaxLength
    else (if bytes_eq name (keyword_name text.Pattern) then known.Text text.Pattern
    else (if bytes_eq name (codes "title") then known.Description
    else (if bytes_eq name (codes "description") then known.Description
    else (if bytes_eq name (codes "default") then known.Default
    else (if bytes_eq name (codes "examples") then known.Examples
    else (if bytes_eq name (codes "readOnly") then known.Access
    else (if bytes_eq name (codes "writeOnly") then known.Access
    else (if bytes_eq name (codes "deprecated") then known.Deprecated
    else (if bytes_eq name (codes "contentEncoding") then known.Content
    else (if bytes_eq name (codes "contentMediaType") then known.Content
    else (if bytes_eq name (codes "contentSchema") then known.ContentSchema
    else applicator_named name))))))))))))))))))))))))))))))

-- drafts in their order
abbrev pub draft_number : Draft → ℕ
draft_number Draft4 = 4
draft_number Draft6 = 6
draft_number Draft7 = 7
draft_number Draft201909 = 8
draft_number Draft202012 = 9

-- the first draft that has a keyword, and the last
abbrev pub since : Known → Draft
since known.Identifier = Draft6
since known.Constant = Draft6
since known.PropertyNames = Draft6
since known.Contains = Draft6
since known.Examples = Draft6
since known.If = Draft7
since known.Then = Draft7
since known.Else = Draft7
since known.Comment = Draft7
since known.Access = Draft7
since known.Content = Draft7
since known.Anchor = Draft201909
since known.RecursiveReference = Draft201909
since known.RecursiveAnchor = Draft201909
since known.ContainsCount = Draft201909
since known.DependentRequired = Draft201909
since known.DependentSchemas = Draft201909
since known.Defs = Draft201909
since (known.Unevaluated p) = Draft201909
since known.Deprecated = Draft201909
since known.ContentSchema = Draft201909
since known.Vocabulary = Draft201909
since known.PrefixItems = Draft202012
since known.DynamicReference = Draft202012
since known.DynamicAnchor = Draft202012
since keyword = Draft4

abbrev pub until : Known → Draft
until known.Draft4Identifier = Draft4
until known.Dependencies = Draft7
until known.AdditionalItems = Draft201909
until known.RecursiveReference = Draft201909
until known.RecursiveAnchor = Draft201909
until keyword = Draft202012

abbrev pub has_keyword : Draft → Known → Bool
has_keyword draft keyword = nat_le (draft_number (since keyword)) (draft_number draft)
    && nat_le (draft_number draft) (draft_number (until keyword))

abbrev pub is_unknown : Known → Bool
is_unknown known.Unknown = true
is_unknown other = false

-- whether a draft has a keyword of a name
abbrev pub is_keyword : Draft → List ℕ → Bool
is_keyword draft name = not (is_unknown (named name)) && has_keyword draft (named name)

-- an annotation of strings alone (Validation 2020-12, sections 7.1 and 8.2)
abbrev pub is_of_texts : Known → Bool
is_of_texts (known.Text text.Format) = true
is_of_texts known.Content = true
is_of_texts known.ContentSchema = true
is_of_texts other = false

-- a keyword whose value annotates instances (Core 2020-12, section 7.7; Validation 2020-12,
-- sections 7 to 9)
abbrev pub is_annotation : Known → Bool
is_annotation known.Description = true
is_annotation known.Default = true
is_annotation known.Examples = true
is_annotation known.Access = true
is_annotation known.Deprecated = true
is_annotation other = is_of_texts other

-- whether a draft has keywords that speak of what is evaluated
abbrev pub has_unevaluated : Draft → Bool
has_unevaluated draft = nat_le (draft_number Draft201909) (draft_number draft)

-- drafts 4 to 7 ignore what stands beside a reference (draft 7, Core, section 8.3)
abbrev pub ignores_siblings : Draft → Bool
ignores_siblings Draft4 = true
ignores_siblings Draft6 = true
ignores_siblings Draft7 = true
ignores_siblings later = false

abbrev pub stays_beside_reference : Known → Bool
stays_beside_reference known.Dialect = true
stays_beside_reference known.Reference = true
stays_beside_reference other = false

-- whether the object ms has a reference beside which others are ignored
abbrev pub has_lone_reference : Draft → Members → Bool
has_lone_reference draft ms = ignores_siblings draft && is_some (get_member reference_name ms)

-- whether a member of the object ms says something by a draft
abbrev pub counts : Draft → Members → Known → Bool
counts draft ms keyword = has_keyword draft keyword
    && (stays_beside_reference keyword || not (has_lone_reference draft ms))

-- The keyword of a name among the members ms. A name that is not known says nothing (Core 2020-12,
-- section 6.5).
abbrev pub known_named : Draft → Members → List ℕ → Known
known_named draft ms name = if counts draft ms (named name) then named name else known.Unknown

abbrev pub is_draft_4 : Draft → Bool
is_draft_4 Draft4 = true
is_draft_4 later = false

-- ---- what identifies a schema

abbrev pub identifier_name : Draft → List ℕ
identifier_name draft = if is_draft_4 draft then codes "id" else codes "$id"

-- `$id` of the object ms, or `id` in draft 4
abbrev pub identifier_in : Draft → Members → Option (List ℕ)
identifier_in draft ms = if has_lone_reference draft ms then None
    else option_and_then as_str (get_member (identifier_name draft) ms)

-- the text of a keyword of the object ms, in the drafts that have it
abbrev pub name_in : Draft → Known → List ℕ → Members → Option (List ℕ)
name_in draft keyword name ms = if has_keyword draft keyword
    then option_and_then as_str (get_member name ms) else None

abbrev pub anchor_in : Draft → Members → Option (List ℕ)
anchor_in draft ms = name_in draft known.Anchor (codes "$anchor") ms

abbrev pub dynamic_anchor_in : Draft → Members → Option (List ℕ)
dynamic_anchor_in draft ms = name_in draft known.DynamicAnchor (codes "$dynamicAnchor") ms

-- whether `$recursiveAnchor` of the object ms is `true` (2019-09, Core, section 8.2.4.2.2)
abbrev pub is_recursive : Draft → Members → Bool
is_recursive draft ms = has_keyword draft known.RecursiveAnchor
    && unwrap_or (option_and_then as_bool (get_member (codes "$recursiveAnchor") ms)) false

abbrev pub is_any_of : List ℕ → ℕ → Bool
is_any_of characters c = list_any (λ b. b == c) characters

-- 2019-09 has `:` and no `_` at the beginning (Core, section 8.2.3; 2020-12, Core, section 8.2.2).
abbrev pub begins_anchor : Draft → ℕ → Bool
begins_anchor Draft201909 c = is_ascii_alphabetic c
begins_anchor other c = is_ascii_alphabetic c || c == byte "_"

abbrev pub goes_on_in_anchor : Draft → ℕ → Bool
goes_on_in_anchor Draft201909 c = is_ascii_alphanumeric c || is_any_of (codes "-_.:") c
goes_on_in_anchor other c = is_ascii_alphanumeric c || is_any_of (codes "-_.") c

abbrev pub is_anchor : Draft → List ℕ → Bool
is_anchor draft [] = false
is_anchor draft (c ∷ cs) = begins_anchor draft c && list_all (goes_on_in_anchor draft) cs
