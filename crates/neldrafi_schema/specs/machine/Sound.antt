-- Lists of schemas by which each instance has errors or none.
use Rattle.std.specs.Prelude.{◌≡◌, ◌<◌, ℕ, List, Some, true, length, slice_get}
use Rattle.std.specs.List.{AllByRecursion}
use Rattle.neldrafi_schema.specs.Schemas.{Keyword, rule, string_keyword, malformed}
use Rattle.neldrafi_schema.specs.Schemas.{Body, always, never, keywords, neither, Schema}
use Rattle.neldrafi_schema.specs.Refusals.{ends}

-- what is said of a list of schemas: every keyword has a meaning, and leads to schemas of the list
abbrev pub IsSoundKeyword : ℕ → Keyword → Type 0
IsSoundKeyword count (rule name r bs) = AllByRecursion (λ b. b.schema < count) bs
IsSoundKeyword count (string_keyword name asserted) = Unit {0}
IsSoundKeyword count (malformed path why) = ⊥

abbrev pub IsSoundBody : ℕ → Body → Type 0
IsSoundBody count always = Unit {0}
IsSoundBody count never = Unit {0}
IsSoundBody count (keywords ks) = AllByRecursion (IsSoundKeyword count) ks
IsSoundBody count neither = ⊥

-- and each way that does not enter an instance ends
pub record AreSound (schemas : List Schema) : Type 0 where
  pub some : 0 < length schemas
  pub end : (n : ℕ) → n < length schemas → ends schemas (length schemas) n ≡ true
  pub each : (n : ℕ) (t : Schema) → slice_get schemas n ≡ Some t → IsSoundBody (length schemas) t.body
