-- The values of a schema object at the seven keywords, owned, or without that at `contentSchema`.
use Rattle.std.specs.Prelude.{◌≡◌, Option, option_map}
use Rattle.serde_json.specs.Data.{Data, Members}
use Rattle.serde_json.specs.Find.{get_member}
use Rattle.serde_json.specs.View.{view}
use Rattle.strkw_keywords.specs.declared.keyword.Keyword.{Keyword}
use Rattle.strkw_keywords.specs.declared.keyword.Keyword.TheVariants.{ContentMediaType}
use Rattle.strkw_keywords.specs.declared.keyword.Keyword.TheVariants.{ContentEncoding}
use Rattle.strkw_keywords.specs.declared.keyword.Keyword.TheVariants.{ContentSchema, Format}
use Rattle.strkw_keywords.specs.declared.keyword.Keyword.TheVariants.{MinLength, MaxLength, Pattern}
use Rattle.strkw_keywords.specs.declared.values.Values.{Values}
use Rattle.strkw_keywords.specs.Keywords.{keyword_name}
use Rattle.strkw_keywords.specs.Values.{held_value}
use Rattle.strkw_object.specs.declared.values.OwnedValues.{OwnedValues}

-- the value that is owned for a keyword
abbrev pub owned_value : OwnedValues → Keyword → Option Data
owned_value values ContentMediaType = option_map view values.content_media_type
owned_value values ContentEncoding = option_map view values.content_encoding
owned_value values ContentSchema = option_map view values.content_schema
owned_value values Format = option_map view values.format
owned_value values MinLength = option_map view values.min_length
owned_value values MaxLength = option_map view values.max_length
owned_value values Pattern = option_map view values.pattern

-- these are the values of an object at the seven keywords
pub record AreOwnedOf (ms : Members) (values : OwnedValues) : Type 0 where
  pub same : (keyword : Keyword) → owned_value values keyword ≡ get_member (keyword_name keyword) ms

-- these are the values of an object at the keywords other than `contentSchema`
pub record AreOthersOf (ms : Members) (values : Values) : Type 0 where
  pub same : (keyword : Keyword) → (keyword ≡ ContentSchema → ⊥)
      → held_value values keyword ≡ get_member (keyword_name keyword) ms
