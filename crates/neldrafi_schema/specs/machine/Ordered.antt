-- Keywords whose schemas are in the order of their keys.
use Rattle.std.specs.Prelude.{ℕ, List, [], Option, Some, string_bytes}
use Rattle.std.specs.List.Sorted.{IsSortedBy}
use Rattle.std.specs.Ordering.{is_lt, nat_cmp}
use Rattle.std.specs.Cmp.Lexicographic.{slice_cmp}
use Rattle.neldrafi_schema.specs.declared.node.Branch.{Branch}
use Rattle.neldrafi_schema.specs.declared.node.Keyword.{Keyword}
use Rattle.neldrafi_schema.specs.declared.node.Keyword.TheVariants as keyword
use Rattle.neldrafi_schema.specs.declared.node.Rule.{Rule}
use Rattle.neldrafi_schema.specs.declared.node.Rule.TheVariants as rule
use Rattle.neldrafi_schema.specs.declared.segment.Segment.{Segment}
use Rattle.neldrafi_schema.specs.declared.segment.Segment.TheVariants.{Key}

-- the name of a key; no other segment has one
abbrev pub name_in : Option Segment → List ℕ
name_in (Some (Key name)) = string_bytes name
name_in other = []

-- by the bytes of the names
abbrev pub AreInOrder : List Branch → Type 0
AreInOrder bs = IsSortedBy (λ a b. is_lt (slice_cmp nat_cmp (name_in a.key) (name_in b.key))) bs

-- and those of `properties`
abbrev pub IsRuleInOrder : {E : Type 0} → Rule E → List Branch → Type 0
IsRuleInOrder rule.Properties bs = AreInOrder bs
IsRuleInOrder other bs = Unit {0}

abbrev pub IsInOrder : {E : Type 0} → Keyword E → Type 0
IsInOrder (keyword.Rule r) = IsRuleInOrder r.rule r.branches.items
IsInOrder (keyword.Text k v) = Unit {0}
