-- The URIs by which the schemas of a document are known (Core 2020-12, section 8.2; draft 7, Core,
-- section 8.2).
use Rattle.std.specs.Prelude.{ℕ, suc, List, [], ◌∷◌, ◌++◌, map, Bool, true, false, ◌&&◌, Option, Some, None}
use Rattle.std.specs.Prelude.{if◌then◌else◌}
use Rattle.std.specs.Prelude.{option_map, unwrap_or}
use Rattle.std.specs.List.{flat_map}
use Rattle.std.specs.Str.{bytes_eq}
use Rattle.serde_json.specs.Data.{Data, array, object}
use Rattle.serde_json.specs.Data.{Items, no_items, item, Members, no_members, member}
use Rattle.strkw_report.specs.declared.draft.Draft.{Draft}
use Rattle.neldrafi_uri.specs.Components.{fragment_of, without_fragment}
use Rattle.neldrafi_uri.specs.Resolution.{resolved}
use Rattle.neldrafi_schema.specs.declared.known.Known.{Known}
use Rattle.neldrafi_schema.specs.declared.known.Known.TheVariants as known
use Rattle.neldrafi_schema.specs.declared.known.Holding.{Holding}
use Rattle.neldrafi_schema.specs.declared.known.Holding.TheVariants as held
use Rattle.neldrafi_schema.specs.Drafts.{anchor_in, dynamic_anchor_in, identifier_in, is_recursive}
use Rattle.neldrafi_schema.specs.Drafts.{known_named}
use Rattle.neldrafi_schema.specs.Paths.{Path, key, place, document, child}
use Rattle.neldrafi_schema.specs.Documents.{Document, Documents, document_at, schema_uri}
use Rattle.neldrafi_schema.specs.Rules.{option_list}

-- a plain name, which is empty for the resource itself, and whether dynamic references may lead to it
-- from other resources
abbrev pub Anchor : Type 0
Anchor = List ℕ × Bool

-- a URI without a fragment, a plain name in it, and the path to the schema that they identify
pub record Identifier : Type 0 where
  pub uri : List ℕ
  pub anchor : List ℕ
  pub is_dynamic : Bool
  pub path : Path

-- ---- base URIs (Core 2020-12, sections 8.2.1 and 9.1.1)

abbrev pub base_by : List ℕ → Option (List ℕ) → List ℕ
base_by base (Some id) = resolved base (without_fragment id)
base_by base None = base

-- of a schema, by the one of the schema around it
abbrev pub base_in : Draft → List ℕ → Data → List ℕ
base_in draft base (object ms) = base_by base (identifier_in draft ms)
base_in draft base other = base

-- of the schema at a path
abbrev pub base_at : Draft → List ℕ → Path → Data → List ℕ
base_at draft base [] d = base_in draft base d
base_at draft base (s ∷ path) d = unwrap_or
    (option_map (base_at draft (base_in draft base d) path) (child s d)) (base_in draft base d)

-- of the schema at a path, whose first step is the number of a document
abbrev pub base_among : Draft → Documents → Path → List ℕ
base_among draft documents (document n ∷ path) = unwrap_or
    (option_map (λ d. base_at draft d.uri path d.value) (document_at documents n)) []
base_among draft documents other = []

-- ---- the subschemas of a document

-- how the value of a keyword has schemas
abbrev pub holding : Known → Holding
holding known.Properties = held.ByKey
holding known.PatternProperties = held.ByKey
holding known.Dependencies = held.ByKey
holding known.DependentSchemas = held.ByKey
holding known.Definitions = held.ByKey
holding known.Defs = held.ByKey
holding known.AdditionalProperties = held.OneOrSeveral
holding known.PropertyNames = held.OneOrSeveral
holding known.PrefixItems = held.OneOrSeveral
holding known.Items = held.OneOrSeveral
holding known.AdditionalItems = held.OneOrSeveral
holding known.Contains = held.OneOrSeveral
holding known.AllOf = held.OneOrSeveral
holding known.AnyOf = held.OneOrSeveral
holding known.OneOf = held.OneOrSeveral
holding known.Not = held.OneOrSeveral
holding known.If = held.OneOrSeveral
holding known.Then = held.OneOrSeveral
holding known.Else = held.OneOrSeveral
holding (known.Unevaluated p) = held.OneOrSeveral
holding known.ContentSchema = held.OneOrSeveral
holding other = held.Nothing

-- what counts of a value that is one schema or several, or of one whose members are schemas
abbrev pub held_by : {A : Type 0} → Holding → List A → List A → List A
held_by held.Nothing one members = []
held_by held.OneOrSeveral one members = one
held_by held.ByKey one members = members

-- The schema objects of the schema at a path, or of the list of schemas there: itself, and those
-- below it, each with its path, in the order of the document.
abbrev mutual
  pub schema_objects : Draft → Path → Data → List (Path × Members)
  schema_objects draft path (object ms) = (path, ms) ∷ of_members draft path ms ms
  schema_objects draft path (array ds) = of_items draft path 0 ds
  schema_objects draft path other = []

  pub of_items : Draft → Path → ℕ → Items → List (Path × Members)
  of_items draft path n no_items = []
  of_items draft path n (item d ds) =
      schema_objects draft (path ++ place n ∷ []) d ++ of_items draft path (suc n) ds

  -- of the members of the object all
  pub of_members : Draft → Path → Members → Members → List (Path × Members)
  of_members draft path all no_members = []
  of_members draft path all (member name d ms) =
      held_by (holding (known_named draft all name))
      (schema_objects draft (path ++ key name ∷ []) d)
      (of_keyed draft (path ++ key name ∷ []) d) ++ of_members draft path all ms

  -- of an object whose members are schemas
  pub of_keyed : Draft → Path → Data → List (Path × Members)
  of_keyed draft path (object ms) = of_each draft path ms
  of_keyed draft path other = []

  pub of_each : Draft → Path → Members → List (Path × Members)
  of_each draft path no_members = []
  of_each draft path (member name d ms) =
      schema_objects draft (path ++ key name ∷ []) d ++ of_each draft path ms

-- ---- identifiers

abbrev pub named_anchors : Bool → Option (List ℕ) → List Anchor
named_anchors is_dynamic name = map (λ anchor. (anchor, is_dynamic)) (option_list name)

-- of `$id`: the resource itself, dynamic by `$recursiveAnchor`, and its fragment, up to draft 7
abbrev pub resource_anchors : Bool → Option (List ℕ) → List Anchor
resource_anchors recursive (Some id) = ([], recursive) ∷ named_anchors false (fragment_of id)
resource_anchors recursive None = []

-- and the plain names of `$anchor` and `$dynamicAnchor`
abbrev pub own_anchors : Draft → Members → List Anchor
own_anchors draft ms = resource_anchors (is_recursive draft ms) (identifier_in draft ms)
    ++ named_anchors false (anchor_in draft ms) ++ named_anchors true (dynamic_anchor_in draft ms)

abbrev pub identifier : List ℕ → Path → Anchor → Identifier
identifier uri path a = record { uri = uri; anchor = a.0; is_dynamic = a.1; path = path }

-- those of a schema object of the documents
abbrev pub own_identifiers : Draft → Documents → Path × Members → List Identifier
own_identifiers draft documents o =
    map (identifier (base_among draft documents o.0) o.0) (own_anchors draft o.1)

abbrev pub recurs : Draft → Data → Bool
recurs draft (object ms) = is_recursive draft ms
recurs draft other = false

-- those of the document of a number, which is known by a URI
abbrev pub document_identifiers : Draft → Documents → ℕ → Document → List Identifier
document_identifiers draft documents n d =
    identifier d.uri (document n ∷ []) ([], recurs draft d.value)
    ∷ flat_map (own_identifiers draft documents) (schema_objects draft (document n ∷ []) d.value)

abbrev pub further_identifiers : Draft → Documents → ℕ → List Document → List Identifier
further_identifiers draft documents n [] = []
further_identifiers draft documents n (d ∷ ds) =
    document_identifiers draft documents n d ++ further_identifiers draft documents (suc n) ds

abbrev pub all_identifiers : Draft → Documents → List Identifier
all_identifiers draft documents =
    document_identifiers draft documents 0 (record { uri = schema_uri; value = documents.schema })
    ++ further_identifiers draft documents 1 documents.further

-- the path to what a URI and a plain name identify, which is the first
abbrev pub identified : List ℕ → List ℕ → List Identifier → Option Path
identified uri anchor [] = None
identified uri anchor (i ∷ ids) = if bytes_eq uri i.uri && bytes_eq anchor i.anchor
    then Some i.path else identified uri anchor ids
