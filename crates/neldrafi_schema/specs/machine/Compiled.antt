-- The schemas that nodes stand for, and the targets that the code has.
use Rattle.std.specs.Prelude.{ℕ, List, map, option_map, string_bytes}
use Rattle.serde_json.specs.Data.{Data}
use Rattle.serde_json.specs.View.{number_view, view}
use Rattle.strkw_pattern.specs.declared.engine.Outcome.{Outcome}
use Rattle.strkw_keywords.specs.Keywords.{keyword_name}
use Rattle.strkw_keywords.specs.Validators.{assertions_of}
use Rattle.neldrafi_schema.specs.declared.segment.Segment.{Segment as CompiledSegment}
use Rattle.neldrafi_schema.specs.declared.segment.Segment.TheVariants as segment
use Rattle.neldrafi_schema.specs.declared.segment.Step.{Step}
use Rattle.neldrafi_schema.specs.declared.segment.Step.TheVariants as step
use Rattle.neldrafi_schema.specs.declared.targets.Seen.{Seen}
use Rattle.neldrafi_schema.specs.declared.targets.Seen.TheVariants as seen
use Rattle.neldrafi_schema.specs.declared.targets.Target.{Target as FoundTarget}
use Rattle.neldrafi_schema.specs.declared.targets.Child.{Child as FoundChild}
use Rattle.neldrafi_schema.specs.Rules.{Child}
use Rattle.neldrafi_schema.specs.declared.node.Node.{Node}
use Rattle.neldrafi_schema.specs.declared.node.Header.{Header as CompiledHeader}
use Rattle.neldrafi_schema.specs.declared.node.Note.{Note as CompiledNote}
use Rattle.neldrafi_schema.specs.declared.node.Branch.{Branch as CompiledBranch}
use Rattle.neldrafi_schema.specs.declared.node.Dependency.{Dependency as CompiledDependency}
use Rattle.neldrafi_schema.specs.declared.node.Rule.{Rule as CompiledRule}
use Rattle.neldrafi_schema.specs.declared.node.Rule.TheVariants as compiled
use Rattle.neldrafi_schema.specs.declared.node.Ruled.{Ruled}
use Rattle.neldrafi_schema.specs.declared.node.Body.{Body as CompiledBody}
use Rattle.neldrafi_schema.specs.declared.node.Body.TheVariants as body
use Rattle.neldrafi_schema.specs.declared.node.Keyword.{Keyword as CompiledKeyword}
use Rattle.neldrafi_schema.specs.declared.node.Keyword.TheVariants as keyword
use Rattle.neldrafi_schema.specs.Paths.{Path, Segment, key, place, document}
use Rattle.neldrafi_schema.specs.Rules.{Target, path_of as path_to}
use Rattle.neldrafi_schema.specs.Schemas.{Dependency, Rule, types, among, equal_to, limited, multiple_of}
use Rattle.neldrafi_schema.specs.Schemas.{sized, distinct, required, reference, all_of, dependent}
use Rattle.neldrafi_schema.specs.Schemas.{properties, matching, other_members, no_other_members}
use Rattle.neldrafi_schema.specs.Schemas.{member_names, placed, other_items, no_other_items, negation}
use Rattle.neldrafi_schema.specs.Schemas.{any_of, one_of, contains, where_valid, where_not_valid, condition, unevaluated, held}
use Rattle.neldrafi_schema.specs.Schemas.{Branch, Keyword, rule, string_keyword}
use Rattle.neldrafi_schema.specs.Schemas.{Body, always, never, keywords, Note, Header, Schema}

-- ---- segments

abbrev pub segment_of : CompiledSegment → Segment
segment_of (segment.Key name) = key (string_bytes name)
segment_of (segment.Place n) = place n
segment_of (segment.Document n) = document n

abbrev pub step_of : Step → Segment
step_of (step.Key name) = key name.now
step_of (step.Place n) = place n
step_of (step.Document n) = document n

abbrev pub path_of : List CompiledSegment → Path
path_of path = map segment_of path

-- ---- targets

abbrev pub seen_data : Seen → Data
seen_data (seen.Within v) = view v.now
seen_data (seen.Name v) = view v

abbrev pub target_of : FoundTarget → Target
target_of t = record {
  schema = t.schema;
  value = seen_data t.value;
  way = path_to (option_map step_of t.way);
  inside = path_to (option_map step_of t.inside);
}

abbrev pub children_of : List FoundChild → List Child
children_of cs = map (λ c. (step_of c.step, view c.value.now)) cs

abbrev pub targets_of : List FoundTarget → List Target
targets_of ts = map target_of ts

-- ---- schemas

abbrev pub branch_of : CompiledBranch → Branch
branch_of b = record { key = option_map segment_of b.key; schema = b.schema }

abbrev pub branches_of : List CompiledBranch → List Branch
branches_of bs = map branch_of bs

abbrev pub note_of : CompiledNote → Note
note_of n = record { keyword = string_bytes n.keyword; value = view n.value; of_texts = n.of_texts }

abbrev pub notes_of : List CompiledNote → List Note
notes_of ns = map note_of ns

abbrev pub header_of : CompiledHeader → Header
header_of h = record {
  location = h.location;
  absolute = string_bytes h.absolute;
  notes = notes_of h.notes.items;
}

abbrev pub dependency_of : CompiledDependency → Dependency
dependency_of d = (string_bytes d.name, map string_bytes d.required.items)

module _ {E : Type 0} (outcome : E → List ℕ → Outcome) where
  abbrev pub rule_of : CompiledRule E → Rule
  rule_of (compiled.Types floats ts) = types floats ts.items
  rule_of (compiled.Among vs) = among (map view vs.items)
  rule_of (compiled.EqualTo v) = equal_to (view v)
  rule_of (compiled.Limited l n) = limited l (number_view n)
  rule_of (compiled.MultipleOf n) = multiple_of (number_view n)
  rule_of (compiled.Sized s n) = sized s n
  rule_of compiled.Distinct = distinct
  rule_of (compiled.Required names) = required (map string_bytes names.items)
  rule_of compiled.Reference = reference
  rule_of compiled.AllOf = all_of
  rule_of (compiled.Dependent ds) = dependent (map dependency_of ds.items)
  rule_of compiled.Properties = properties
  rule_of (compiled.Matching patterns) = matching (map (assertions_of outcome) patterns.items)
  rule_of compiled.OtherMembers = other_members
  rule_of compiled.NoOtherMembers = no_other_members
  rule_of compiled.MemberNames = member_names
  rule_of compiled.Placed = placed
  rule_of compiled.OtherItems = other_items
  rule_of compiled.NoOtherItems = no_other_items
  rule_of (compiled.Negation v) = negation (view v)
  rule_of compiled.AnyOf = any_of
  rule_of compiled.OneOf = one_of
  rule_of (compiled.Contains least most counts) = contains least most counts
  rule_of compiled.WhereValid = where_valid
  rule_of compiled.WhereNotValid = where_not_valid
  rule_of compiled.Condition = condition
  rule_of (compiled.Unevaluated part) = unevaluated part
  rule_of compiled.Held = held

  abbrev pub ruled_of : Ruled E → Keyword
  ruled_of r = rule (string_bytes r.name) (rule_of r.rule) (branches_of r.branches.items)

  abbrev pub keyword_of : CompiledKeyword E → Keyword
  keyword_of (keyword.Rule r) = ruled_of r
  keyword_of (keyword.Text k v) = string_keyword (keyword_name k) (assertions_of outcome v)

  abbrev pub keywords_of : List (CompiledKeyword E) → List Keyword
  keywords_of ks = map keyword_of ks

  abbrev pub body_of : CompiledBody E → Body
  body_of body.Always = always
  body_of body.Never = never
  body_of (body.Keywords ks) = keywords (keywords_of ks.items)

  abbrev pub schema_of : Node E → Schema
  schema_of node = record { header = header_of node.header; body = body_of node.body }

  abbrev pub schemas_of : List (Node E) → List Schema
  schemas_of nodes = map schema_of nodes
