-- What each keyword says of an instance, by the verdicts on others: which errors, and which schemas
-- have to report theirs. Sections are those of Validation, draft 7 (6.x), and of Core 2020-12 (10.x).
use Rattle.std.specs.Prelude.{ℕ, zero, suc, List, [], ◌∷◌, ◌++◌, map, Bool, true, false, not, ◌&&◌}
use Rattle.std.specs.Prelude.{◌||◌, Option, Some, None, if◌then◌else◌, is_some}
use Rattle.std.specs.Prelude.{length, nat_le, option_and_then, take, drop}
use Rattle.std.specs.List.{flat_map, filter, list_all, list_any}
use Rattle.std.specs.Str.{bytes_eq, chars}
use Rattle.serde_json.specs.Data.{Data, Num, number, string, array, object}
use Rattle.serde_json.specs.Data.{Items, no_items, item, Members, no_members, member}
use Rattle.serde_json.specs.Find.{get, get_member, as_array}
use Rattle.strkw_pattern.specs.declared.engine.Outcome.{Outcome}
use Rattle.strkw_pattern.specs.declared.engine.Outcome.TheVariants as outcome
use Rattle.strkw_keywords.specs.Demands.{Demand, compares, matches}
use Rattle.strkw_keywords.specs.Errors.{Assertion}
use Rattle.neldrafi_schema.specs.declared.limits.Limit.{Limit}
use Rattle.neldrafi_schema.specs.declared.limits.Limit.TheVariants as limit
use Rattle.neldrafi_schema.specs.declared.limits.Size.{Size}
use Rattle.neldrafi_schema.specs.declared.limits.Size.TheVariants as size
use Rattle.neldrafi_schema.specs.declared.node.Part.{Part}
use Rattle.neldrafi_schema.specs.declared.node.Part.TheVariants as part
use Rattle.neldrafi_schema.specs.Types.{counts_as}
use Rattle.neldrafi_schema.specs.Numbers.{is_less, is_multiple}
use Rattle.neldrafi_schema.specs.Equality.{same, are_distinct}
use Rattle.neldrafi_schema.specs.Paths.{Path, Segment, segment_text, key, place, child}
use Rattle.neldrafi_schema.specs.Errors.{Kind, not_of_types, not_among, not_equal_to, beyond, not_multiple}
use Rattle.neldrafi_schema.specs.Errors.{of_other_size, not_distinct, missing, unexpected_members}
use Rattle.neldrafi_schema.specs.Errors.{unexpected_items, negated, valid_by_none, valid_by_several}
use Rattle.neldrafi_schema.specs.Errors.{none_contained, unevaluated_members, unevaluated_items}
use Rattle.neldrafi_schema.specs.Schemas.{Dependency, Rule, types, among, equal_to, limited, multiple_of}
use Rattle.neldrafi_schema.specs.Schemas.{sized, distinct, required, reference, all_of, dependent}
use Rattle.neldrafi_schema.specs.Schemas.{properties, matching, other_members, no_other_members}
use Rattle.neldrafi_schema.specs.Schemas.{member_names, placed, other_items, no_other_items, negation}
use Rattle.neldrafi_schema.specs.Schemas.{any_of, one_of, contains, where_valid, where_not_valid, condition, unevaluated}
use Rattle.neldrafi_schema.specs.Schemas.{Branch, Keyword, rule}

-- a value that is to be valid by a schema; the segments below the keyword that lead to the schema,
-- and those below the instance that lead to the value
pub record Target : Type 0 where
  pub schema : ℕ
  pub value : Data
  pub way : Path
  pub inside : Path

abbrev pub path_of : Option Segment → Path
path_of None = []
path_of (Some s) = s ∷ []

abbrev pub target : Branch → Data → Path → Target
target b d inside = record { schema = b.schema; value = d; way = path_of b.key; inside = inside }

-- ---- items and members

abbrev pub member_list : Members → List (List ℕ × Data)
member_list no_members = []
member_list (member name d ms) = (name, d) ∷ member_list ms

abbrev pub members_in : Data → List (List ℕ × Data)
members_in (object ms) = member_list ms
members_in other = []

abbrev pub item_list : Items → List Data
item_list no_items = []
item_list (item d ds) = d ∷ item_list ds

abbrev pub items_in : Data → List Data
items_in (array ds) = item_list ds
items_in other = []

-- values with their places
abbrev pub placed_from : ℕ → List Data → List (ℕ × Data)
placed_from n [] = []
placed_from n (d ∷ ds) = (n, d) ∷ placed_from (suc n) ds

abbrev pub placed_items : Data → List (ℕ × Data)
placed_items d = placed_from 0 (items_in d)

-- ---- what the rules beside say of a member or an item (10.3.1.2 and 10.3.2.3)

abbrev pub is_match : Outcome → Bool
is_match outcome.Match = true
is_match other = false

-- whether a text meets what a pattern demands
abbrev pub meets : List ℕ → Demand → Bool
meets text (compares p search) = is_match (search (chars text))
meets text (matches p search) = is_match (search (chars text))
meets text other = false

abbrev pub is_matched : List ℕ → List Assertion → Bool
is_matched name pattern = list_all (λ a. meets name a.demand) pattern

abbrev pub is_named : List ℕ → Option Segment → Bool
is_named name (Some (key other)) = bytes_eq name other
is_named name other = false

-- a rule leads to the member of this name
abbrev pub leads_to : List ℕ → Keyword → Bool
leads_to name (rule word properties bs) = list_any (λ b. is_named name b.key) bs
leads_to name (rule word (matching patterns) bs) = list_any (is_matched name) patterns
leads_to name other = false

abbrev pub other_members_in : List Keyword → Data → List (List ℕ × Data)
other_members_in beside d = filter (λ m. not (list_any (leads_to m.0) beside)) (members_in d)

-- how many items have a schema of their own
abbrev pub placed_count : List Keyword → ℕ
placed_count [] = 0
placed_count (rule word placed bs ∷ ks) = length bs
placed_count (k ∷ ks) = placed_count ks

abbrev pub other_items_in : List Keyword → Data → List (ℕ × Data)
other_items_in beside d = drop (placed_count beside) (placed_items d)

-- ---- targets

abbrev pub on_itself : Data → List Branch → List Target
on_itself d bs = map (λ b. target b d []) bs

abbrev pub on_members : List (List ℕ × Data) → Branch → List Target
on_members ms b = map (λ m. target b m.1 (key m.0 ∷ [])) ms

abbrev pub on_items : List (ℕ × Data) → Branch → List Target
on_items ds b = map (λ i. target b i.1 (place i.0 ∷ [])) ds

abbrev pub option_list : {A : Type 0} → Option A → List A
option_list None = []
option_list (Some a) = a ∷ []

-- the value at the branch's own segment
abbrev pub child_at : Data → Branch → Option Data
child_at d b = option_and_then (λ s. child s d) b.key

abbrev pub is_present : Data → Branch → Bool
is_present d b = is_some (child_at d b)

abbrev pub on_child : Data → Branch → List Target
on_child d b = map (λ v. target b v (path_of b.key)) (option_list (child_at d b))

abbrev pub on_matched : Data → List (List Assertion) → List Branch → List Target
on_matched d (pattern ∷ patterns) (b ∷ bs) =
    on_members (filter (λ m. is_matched m.0 pattern) (members_in d)) b ++ on_matched d patterns bs
on_matched d patterns bs = []

abbrev pub on_names : Data → Branch → List Target
on_names d b = map (λ m. target b (string m.0) []) (members_in d)

-- of several schemas by the first one, and by the others
abbrev pub first_of : List Branch → List Branch
first_of bs = take 1 bs

abbrev pub others_of : List Branch → List Branch
others_of bs = drop 1 bs

-- what an instance is tested by, where only the verdicts count
abbrev pub tested : Rule → List Branch → Data → List Target
tested (negation schema) bs d = on_itself d bs
tested any_of bs d = on_itself d bs
tested one_of bs d = on_itself d bs
tested (contains least most counts) bs d = flat_map (on_items (placed_items d)) bs
tested where_valid bs d = on_itself d (others_of bs)
tested where_not_valid bs d = on_itself d (others_of bs)
tested condition bs d = on_itself d bs
tested other bs d = []

-- what has to report all of its errors, by those verdicts
abbrev pub applied : List Keyword → Rule → List Branch → Data → List Bool → List Target
applied beside reference bs d vs = on_itself d bs
applied beside all_of bs d vs = on_itself d bs
applied beside (dependent names) bs d vs = on_itself d (filter (is_present d) bs)
applied beside properties bs d vs = flat_map (on_child d) bs
applied beside (matching patterns) bs d vs = on_matched d patterns bs
applied beside other_members bs d vs = flat_map (on_members (other_members_in beside d)) bs
applied beside member_names bs d vs = flat_map (on_names d) bs
applied beside placed bs d vs = flat_map (on_child d) bs
applied beside other_items bs d vs = flat_map (on_items (other_items_in beside d)) bs
applied beside where_valid bs d vs = if list_all (λ v. v) vs then on_itself d (first_of bs) else []
applied beside where_not_valid bs d vs =
    if list_all (λ v. v) vs then [] else on_itself d (first_of bs)
applied beside other bs d vs = []

-- ---- what of an instance is evaluated, of which `unevaluatedItems` and `unevaluatedProperties`
-- speak (Core 2020-12, sections 7.7.1 and 11)

abbrev pub valid_of : List Target → List Bool → List Target
valid_of (t ∷ ts) (true ∷ vs) = t ∷ valid_of ts vs
valid_of (t ∷ ts) (false ∷ vs) = valid_of ts vs
valid_of ts vs = []

-- what these rules lead to is not part of the instance, or is not to be valid
abbrev pub counts_nothing : Rule → Bool
counts_nothing (negation schema) = true
counts_nothing member_names = true
counts_nothing (contains least most false) = true
counts_nothing other = false

-- of the schema of `if`, only the keyword itself counts
abbrev pub is_choice : Rule → Bool
is_choice where_valid = true
is_choice where_not_valid = true
is_choice other = false

abbrev pub found_valid : Rule → List Branch → Data → List Bool → List Target
found_valid r bs d vs = if is_choice r then [] else valid_of (tested r bs d) vs

-- the targets that are valid, or have to be, since otherwise the instance is not
abbrev pub reached : List Keyword → Rule → List Branch → Data → List Bool → List Target
reached beside r bs d vs = found_valid r bs d vs ++ applied beside r bs d vs

-- those that count
abbrev pub spans : List Keyword → Rule → List Branch → Data → List Bool → List Target
spans beside r bs d vs = if counts_nothing r then [] else reached beside r bs d vs

-- a member or an item, and the segment that leads to it
abbrev pub Child : Type 0
Child = Segment × Data

abbrev pub children : Part → Data → List Child
children part.Members d = map (λ m. (key m.0, m.1)) (members_in d)
children part.Items d = map (λ i. (place i.0, i.1)) (placed_items d)

abbrev pub is_of_part : Part → Segment → Bool
is_of_part part.Members (key name) = true
is_of_part part.Items (place n) = true
is_of_part other s = false

-- whether a rule speaks of what no keyword beside evaluates, and of which part of an instance
abbrev pub part_of : Rule → Option Part
part_of (unevaluated part) = Some part
part_of other = None

-- it then leaves none of this part
abbrev pub is_all_of : Segment → Option Part → Bool
is_all_of s (Some part) = is_of_part part s
is_all_of s None = false

abbrev pub on_each : List Child → Branch → List Target
on_each cs b = map (λ c. target b c.1 (c.0 ∷ [])) cs

-- ---- errors

abbrev pub unless : Bool → Kind → List Kind
unless true kind = []
unless false kind = kind ∷ []

-- of numbers, and of no other value (6.2)
abbrev pub is_within : Limit → Num → Num → Bool
is_within limit.Minimum m x = not (is_less x m)
is_within limit.ExclusiveMinimum m x = is_less m x
is_within limit.Maximum m x = not (is_less m x)
is_within limit.ExclusiveMaximum m x = is_less x m

abbrev pub if_number : Data → (Num → Bool) → Bool
if_number (number x) holds = holds x
if_number other holds = true

-- of arrays, or of objects (6.4 and 6.5)
abbrev pub has_size : Size → ℕ → Data → Bool
has_size size.MinItems n (array ds) = nat_le n (length (item_list ds))
has_size size.MaxItems n (array ds) = nat_le (length (item_list ds)) n
has_size size.MinProperties n (object ms) = nat_le n (length (member_list ms))
has_size size.MaxProperties n (object ms) = nat_le (length (member_list ms)) n
has_size other n d = true

abbrev pub is_distinct : Data → Bool
is_distinct (array ds) = are_distinct ds
is_distinct other = true

-- the names that an object has not, one error each; an instance that is no object lacks none
abbrev pub missing_in : Data → List (List ℕ) → List Kind
missing_in (object ms) names =
    map missing (filter (λ name. not (is_some (get_member name ms))) names)
missing_in other names = []

-- of each name that is there, those that it requires
abbrev pub missing_beside : Data → Dependency → List Kind
missing_beside d dependency = if is_some (get dependency.0 d) then missing_in d dependency.1 else []

abbrev pub none_allowed : {A : Type 0} → (List A → Kind) → List A → List Kind
none_allowed kind [] = []
none_allowed kind (a ∷ others) = kind (a ∷ others) ∷ []

abbrev pub by_count : List ℕ → ℕ → List Kind
by_count word zero = valid_by_none word ∷ []
by_count word (suc zero) = []
by_count word (suc (suc n)) = valid_by_several ∷ []

abbrev pub count_of : List Bool → ℕ
count_of vs = length (filter (λ v. v) vs)

abbrev pub is_between : ℕ → Option ℕ → ℕ → Bool
is_between least None n = nat_le least n
is_between least (Some most) n = nat_le least n && nat_le n most

-- of the children that are left, where there are to be none
abbrev pub left_kinds : Option Part → List Branch → List Child → List Kind
left_kinds (Some part.Members) [] cs =
    none_allowed unevaluated_members (map (λ c. segment_text c.0) cs)
left_kinds (Some part.Items) [] cs = none_allowed unevaluated_items (map (λ c. c.1) cs)
left_kinds other bs cs = []

-- what the keyword of a name reports itself
abbrev pub kinds : List Keyword → List ℕ → Rule → Data → List Bool → List Kind
kinds beside word (types floats ts) d vs = unless (list_any (λ t. counts_as floats t d) ts) (not_of_types ts)
kinds beside word (among ds) d vs = unless (list_any (same d) ds) (not_among ds)
kinds beside word (equal_to e) d vs = unless (same d e) (not_equal_to e)
kinds beside word (limited l m) d vs = unless (if_number d (is_within l m)) (beyond l m)
kinds beside word (multiple_of m) d vs = unless (if_number d (is_multiple m)) (not_multiple m)
kinds beside word (sized s n) d vs = unless (has_size s n d) (of_other_size s n)
kinds beside word distinct d vs = unless (is_distinct d) not_distinct
kinds beside word (required names) d vs = missing_in d names
kinds beside word (dependent ds) d vs = flat_map (missing_beside d) ds
kinds beside word no_other_members d vs =
    none_allowed unexpected_members (map (λ m. m.0) (other_members_in beside d))
kinds beside word no_other_items d vs =
    none_allowed unexpected_items (map (λ i. i.1) (other_items_in beside d))
kinds beside word (negation schema) d vs = unless (not (list_any (λ v. v) vs)) (negated schema)
kinds beside word any_of d vs = unless (list_any (λ v. v) vs) (valid_by_none word)
kinds beside word one_of d vs = by_count word (count_of vs)
kinds beside word (contains least most counts) d vs =
    unless (not (is_some (as_array d)) || is_between least most (count_of vs)) none_contained
kinds beside word other d vs = []
