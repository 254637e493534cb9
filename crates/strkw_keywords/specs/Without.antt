-- An object whose value at `contentSchema` was taken out.
use Rattle.std.specs.Prelude.{◌≡◌, ℕ, List, false, None}
use Rattle.std.specs.Str.{bytes_eq}
use Rattle.serde_json.specs.Data.{Members}
use Rattle.serde_json.specs.Find.{get_member}
use Rattle.strkw_keywords.specs.declared.keyword.Keyword.TheVariants.{ContentSchema}
use Rattle.strkw_keywords.specs.Keywords.{keyword_name}

-- an object has the members of another one, but for that at `contentSchema`
pub record KeepsOthers (ms others : Members) : Type 0 where
  pub kept : (name : List ℕ) → bytes_eq (keyword_name ContentSchema) name ≡ false
      → get_member name others ≡ get_member name ms

-- and has none at `contentSchema`
pub record IsWithoutSchema (ms others : Members) : Type 0 where
  pub taken : get_member (keyword_name ContentSchema) others ≡ None
  pub left : KeepsOthers ms others
