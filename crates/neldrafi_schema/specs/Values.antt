-- The values that keywords take, and what each comes to before its schemas are numbered. Sections are
-- those of draft 7: Core, and Validation (6.x).
use Rattle.std.specs.Prelude.{ℕ, suc, List, [], ◌∷◌, ◌++◌, Bool, true, false, not, ◌&&◌, Option}
use Rattle.std.specs.Prelude.{Some, None, codes, if◌then◌else◌, option_and_then, option_map, is_some, unwrap_or}
use Rattle.serde_json.specs.Data.{Data, Num, array}
use Rattle.serde_json.specs.Data.{Items, no_items, item, Members, no_members, member}
use Rattle.serde_json.specs.Find.{as_array, as_bool, as_number, as_object, as_str, get_member}
use Rattle.strkw_report.specs.declared.draft.Draft.{Draft}
use Rattle.strkw_report.specs.declared.draft.Draft.TheVariants.{Draft4, Draft6, Draft202012}
use Rattle.neldrafi_schema.specs.declared.json_type.JsonType.{JsonType}
use Rattle.neldrafi_schema.specs.declared.limits.Limit.{Limit}
use Rattle.neldrafi_schema.specs.declared.limits.Limit.TheVariants as limit
use Rattle.neldrafi_schema.specs.declared.known.Known.{Known}
use Rattle.neldrafi_schema.specs.declared.known.Known.TheVariants as known
use Rattle.neldrafi_schema.specs.Types.{type_named}
use Rattle.neldrafi_schema.specs.Numbers.{if_positive, size_in}
use Rattle.neldrafi_schema.specs.Rules.{item_list}
use Rattle.neldrafi_schema.specs.Paths.{Path, Segment, key, place}
use Rattle.neldrafi_uri.specs.Components.{fragment_of}
use Rattle.neldrafi_schema.specs.Drafts.{draft_named, has_keyword, has_unevaluated, is_anchor, is_draft_4}
use Rattle.neldrafi_schema.specs.Schemas.{Reason, wrong_type, unresolved_reference, unknown_dialect}
use Rattle.neldrafi_schema.specs.Schemas.{Dependency, Rule, types, among, equal_to, limited, multiple_of}
use Rattle.neldrafi_schema.specs.Schemas.{sized, distinct, required, reference, all_of, dependent}
use Rattle.neldrafi_schema.specs.Schemas.{properties, other_members, no_other_members, member_names}
use Rattle.neldrafi_schema.specs.Schemas.{placed, other_items, no_other_items, negation, any_of, one_of}
use Rattle.neldrafi_schema.specs.Schemas.{contains, where_valid, where_not_valid, condition, unevaluated, held}

-- a schema to which a keyword leads, by its path
pub record Lead : Type 0 where
  pub key : Option Segment
  pub path : Path

-- what a keyword comes to
pub data Sense : Type 0 where
  nothing : Sense
  says : Rule → List Lead → Sense
  refused : Reason → Sense

-- ---- kinds of values

abbrev pub of_kind : {A : Type 0} → (A → Sense) → Option A → Sense
of_kind sense (Some a) = sense a
of_kind sense None = refused wrong_type

-- what each item comes to, where each comes to something
abbrev pub all_items : {A : Type 0} → (Data → Option A) → Items → Option (List A)
all_items of no_items = Some []
all_items of (item d ds) =
    option_and_then (λ a. option_map (λ rest. a ∷ rest) (all_items of ds)) (of d)

-- a list that has some, if it has to
abbrev pub unless_empty : {A : Type 0} → Bool → List A → Option (List A)
unless_empty true [] = None
unless_empty needs xs = Some xs

-- draft 4 wants a name at least (draft 4, Validation, 5.4.3 and 5.4.5)
abbrev pub names_in : Draft → Data → Option (List (List ℕ))
names_in draft d = option_and_then (unless_empty (is_draft_4 draft))
    (option_and_then (all_items as_str) (as_array d))

-- and drafts 4 and 6 a value of `enum`
abbrev pub needs_values : Draft → Bool
needs_values Draft4 = true
needs_values Draft6 = true
needs_values later = false

abbrev pub values_in : Draft → Data → Option (List Data)
values_in draft d = option_and_then (unless_empty (needs_values draft))
    (option_map item_list (as_array d))

abbrev pub type_in : Data → Option JsonType
type_in d = option_and_then type_named (as_str d)

-- the types of `type` (6.1.1): of a name, or of an array that has some
abbrev pub types_in : Data → Option (List JsonType)
types_in (array ds) = option_and_then (unless_empty true) (all_items type_in ds)
types_in d = option_map (λ t. t ∷ []) (type_in d)

abbrev pub positive_in : Data → Option Num
positive_in d = option_and_then if_positive (as_number d)

-- ---- schemas in values

abbrev pub lead_to : Path → List Lead
lead_to path = record { key = None; path = path } ∷ []

abbrev pub lead_below : Path → Segment → Lead
lead_below at segment = record { key = Some segment; path = at ++ segment ∷ [] }

abbrev pub item_leads : Path → ℕ → Items → List Lead
item_leads at n no_items = []
item_leads at n (item d ds) = lead_below at (place n) ∷ item_leads at (suc n) ds

abbrev pub member_leads : Path → Members → List Lead
member_leads at no_members = []
member_leads at (member name d ms) = lead_below at (key name) ∷ member_leads at ms

-- of an array that has some
abbrev pub list_sense : Rule → Path → Option Items → Sense
list_sense rule at (Some (item d ds)) = says rule (item_leads at 0 (item d ds))
list_sense rule at other = refused wrong_type

abbrev pub map_sense : Rule → Path → Option Members → Sense
map_sense rule at ms = of_kind (λ inside. says rule (member_leads at inside)) ms

-- of what else an object or an array has: `true` allows it, and counts as a schema where it matters
-- what is evaluated; `false` is a keyword of its own
abbrev pub others_sense : Draft → Rule → Rule → Path → Option Bool → Sense
others_sense draft none some at (Some true) =
    if has_unevaluated draft then says some (lead_to at) else nothing
others_sense draft none some at (Some false) = says none []
others_sense draft none some at None = says some (lead_to at)

-- ---- `dependencies` (6.5.7): by key, names, or a schema

abbrev pub is_array : Data → Bool
is_array d = is_some (as_array d)

abbrev pub dependencies_in : Draft → Members → Option (List Dependency)
dependencies_in draft no_members = Some []
dependencies_in draft (member name d ms) = if is_array d then option_and_then
    (λ names. option_map (λ rest. (name, names) ∷ rest) (dependencies_in draft ms)) (names_in draft d)
    else dependencies_in draft ms

abbrev pub dependency_leads : Path → Members → List Lead
dependency_leads at no_members = []
dependency_leads at (member name d ms) = if is_array d then dependency_leads at ms
    else lead_below at (key name) ∷ dependency_leads at ms

-- `dependentRequired`: names by key (2019-09, section 6.5.4)
abbrev pub dependent_names : Draft → Members → Option (List Dependency)
dependent_names draft no_members = Some []
dependent_names draft (member name d ms) = option_and_then
    (λ names. option_map (λ rest. (name, names) ∷ rest) (dependent_names draft ms))
    (names_in draft d)

abbrev pub dependencies_sense : Draft → Path → Members → Sense
dependencies_sense draft at ms =
    of_kind (λ ds. says (dependent ds) (dependency_leads at ms)) (dependencies_in draft ms)

-- ---- numbers

abbrev pub number_sense : Limit → Data → Sense
number_sense l d = of_kind (λ x. says (limited l x) []) (as_number d)

abbrev pub is_true_at : List ℕ → Members → Bool
is_true_at name ms = unwrap_or (option_and_then as_bool (get_member name ms)) false

abbrev pub least_of : Members → Limit
least_of ms =
    if is_true_at (codes "exclusiveMinimum") ms then limit.ExclusiveMinimum else limit.Minimum

abbrev pub greatest_of : Members → Limit
greatest_of ms =
    if is_true_at (codes "exclusiveMaximum") ms then limit.ExclusiveMaximum else limit.Maximum

-- a boolean that makes the limit of this name exclusive, which has to be there
abbrev pub flag_sense : List ℕ → Members → Data → Sense
flag_sense name ms d =
    if is_some (get_member name ms) && is_some (as_bool d) then nothing else refused wrong_type

-- in draft 4 `exclusiveMinimum` and `exclusiveMaximum` are booleans (draft 4, Validation, 5.1.2 and 5.1.3)
abbrev pub draft_4_sense : Members → Limit → Data → Sense
draft_4_sense ms limit.Minimum d = number_sense (least_of ms) d
draft_4_sense ms limit.Maximum d = number_sense (greatest_of ms) d
draft_4_sense ms limit.ExclusiveMinimum d = flag_sense (codes "minimum") ms d
draft_4_sense ms limit.ExclusiveMaximum d = flag_sense (codes "maximum") ms d

abbrev pub limit_sense : Draft → Members → Limit → Data → Sense
limit_sense draft ms l d = if is_draft_4 draft then draft_4_sense ms l d else number_sense l d

-- ---- the rest

abbrev pub dialect_sense : List ℕ → Sense
dialect_sense text = if is_some (draft_named text) then nothing else refused unknown_dialect

abbrev pub has_some : Option (List ℕ) → Bool
has_some (Some (c ∷ cs)) = true
has_some other = false

-- From 2019-09 on `$id` has no fragment, or an empty one (2020-12, Core, section 8.2.1).
abbrev pub identifier_sense : Draft → List ℕ → Sense
identifier_sense draft text = if has_keyword draft known.Anchor && has_some (fragment_of text)
    then refused wrong_type else nothing

-- of a value that says nothing by itself
abbrev pub kind_sense : Bool → Sense
kind_sense is_right = if is_right then nothing else refused wrong_type

-- an object whose members are Booleans (Core 2020-12, section 8.1.2)
abbrev pub are_flags : Members → Bool
are_flags no_members = true
are_flags (member name d ms) = is_some (as_bool d) && are_flags ms

abbrev pub has_flags : Option Members → Bool
has_flags (Some ms) = are_flags ms
has_flags None = false

-- (2020-12, Core, section 8.2.2; 2019-09, section 8.2.3)
abbrev pub anchor_sense : Draft → List ℕ → Sense
anchor_sense draft text = if is_anchor draft text then nothing else refused wrong_type

abbrev pub target_sense : Option Path → Sense
target_sense (Some path) = says reference (lead_to path)
target_sense None = refused unresolved_reference

-- a reference, by the path to which each text leads
abbrev pub reference_sense : (List ℕ → Option Path) → Data → Sense
reference_sense referred d = of_kind (λ text. target_sense (referred text)) (as_str d)

abbrev pub distinct_sense : Bool → Sense
distinct_sense b = if b then says distinct [] else nothing

-- Of an array, the schemas of its items by place; of any other value, the schema of all (6.4.1). In
-- 2020-12 it is that of the items behind those of `prefixItems` (Core 2020-12, section 10.3.1.2).
abbrev pub items_sense : Draft → Path → Option Items → Sense
items_sense Draft202012 at ds = says other_items (lead_to at)
items_sense earlier at (Some ds) = list_sense placed at (Some ds)
items_sense earlier at None = says other_items (lead_to at)

-- how many items are to be valid: one at least, or as `minContains` and `maxContains` say beside
-- (2019-09, section 6.4.4 and 6.4.5)
abbrev pub count_beside : Draft → Members → List ℕ → Option ℕ
count_beside draft ms name = if has_keyword draft known.ContainsCount
    then option_and_then size_in (get_member name ms) else None

abbrev pub contains_rule : Draft → Members → Rule
contains_rule draft ms = contains (unwrap_or (count_beside draft ms (codes "minContains")) 1)
    (count_beside draft ms (codes "maxContains")) (has_keyword draft known.PrefixItems)

abbrev pub has_placed_items : Members → Bool
has_placed_items ms = is_some (option_and_then as_array (get_member (codes "items") ms))

-- it says nothing where `items` has no array (6.4.2)
abbrev pub additional_sense : Draft → Members → Path → Data → Sense
additional_sense draft ms at d = if has_placed_items ms
    then others_sense draft no_other_items other_items at (as_bool d)
    else (if is_some (as_bool d) then nothing else says held (lead_to at))

-- `then` and `else` of the object ms at a path (6.6)
abbrev pub branch_sense : Rule → Members → Path → Path → Sense
branch_sense r ms path at = if is_some (get_member (codes "if") ms)
    then says r (lead_to at ++ lead_to (path ++ key (codes "if") ∷ []))
    else says held (lead_to at)

-- What the value of a keyword means, unless it is a string keyword, `patternProperties` or a
-- reference: it is at `at`, in the object ms at a path of the document.
abbrev pub sense : Draft → Members → Path → Path → Known → Data → Sense
sense draft ms path at known.Dialect d = of_kind dialect_sense (as_str d)
sense draft ms path at known.Draft4Identifier d = of_kind (identifier_sense draft) (as_str d)
sense draft ms path at known.Identifier d = of_kind (identifier_sense draft) (as_str d)
sense draft ms path at known.Anchor d = of_kind (anchor_sense draft) (as_str d)
sense draft ms path at known.DynamicAnchor d = of_kind (anchor_sense draft) (as_str d)
sense draft ms path at known.RecursiveAnchor d = of_kind (λ b. nothing) (as_bool d)
sense draft ms path at known.Types d =
    of_kind (λ ts. says (types (not (is_draft_4 draft)) ts) []) (types_in d)
sense draft ms path at known.Enumeration d =
    of_kind (λ ds. says (among ds) []) (values_in draft d)
sense draft ms path at known.Constant d = says (equal_to d) []
sense draft ms path at known.MultipleOf d =
    of_kind (λ x. says (multiple_of x) []) (positive_in d)
sense draft ms path at (known.Limited l) d = limit_sense draft ms l d
sense draft ms path at (known.Sized s) d = of_kind (λ n. says (sized s n) []) (size_in d)
sense draft ms path at known.UniqueItems d = of_kind distinct_sense (as_bool d)
sense draft ms path at known.Required d =
    of_kind (λ names. says (required names) []) (names_in draft d)
sense draft ms path at known.Dependencies d =
    of_kind (dependencies_sense draft at) (as_object d)
sense draft ms path at known.Properties d = map_sense properties at (as_object d)
sense draft ms path at known.AdditionalProperties d =
    others_sense draft no_other_members other_members at (as_bool d)
sense draft ms path at known.PropertyNames d = says member_names (lead_to at)
sense draft ms path at known.DependentRequired d =
    of_kind (λ ds. says (dependent ds) []) (option_and_then (dependent_names draft) (as_object d))
sense draft ms path at known.DependentSchemas d = map_sense (dependent []) at (as_object d)
sense draft ms path at known.PrefixItems d = list_sense placed at (as_array d)
sense draft ms path at known.Items d = items_sense draft at (as_array d)
sense draft ms path at known.AdditionalItems d = additional_sense draft ms at d
sense draft ms path at known.Contains d = says (contains_rule draft ms) (lead_to at)
sense draft ms path at known.ContainsCount d = kind_sense (is_some (size_in d))
sense draft ms path at known.AllOf d = list_sense all_of at (as_array d)
sense draft ms path at known.AnyOf d = list_sense any_of at (as_array d)
sense draft ms path at known.OneOf d = list_sense one_of at (as_array d)
sense draft ms path at known.Not d = says (negation d) (lead_to at)
sense draft ms path at (known.Unevaluated p) d =
    others_sense draft (unevaluated p) (unevaluated p) at (as_bool d)
sense draft ms path at known.If d = says condition (lead_to at)
sense draft ms path at known.Then d = branch_sense where_valid ms path at
sense draft ms path at known.Else d = branch_sense where_not_valid ms path at
sense draft ms path at known.Definitions d = map_sense held at (as_object d)
sense draft ms path at known.Defs d = map_sense held at (as_object d)
sense draft ms path at known.Description d = kind_sense (is_some (as_str d))
sense draft ms path at known.Examples d = kind_sense (is_array d)
sense draft ms path at known.Comment d = kind_sense (is_some (as_str d))
sense draft ms path at known.Access d = kind_sense (is_some (as_bool d))
sense draft ms path at known.Deprecated d = kind_sense (is_some (as_bool d))
sense draft ms path at known.Content d = kind_sense (is_some (as_str d))
sense draft ms path at known.ContentSchema d = says held (lead_to at)
sense draft ms path at known.Vocabulary d = kind_sense (has_flags (as_object d))
sense draft ms path at other d = nothing
