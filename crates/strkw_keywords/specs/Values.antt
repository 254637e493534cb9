-- The values of a schema object at the seven keywords.
use Rattle.std.specs.Prelude.{◌≡◌, List, [], ◌∷◌, Option, Some, None, option_map}
use Rattle.serde_json.specs.Data.{Data, Members, no_members, member}
use Rattle.serde_json.specs.Find.{get_member}
use Rattle.serde_json.specs.View.{view}
use Rattle.strkw_keywords.specs.declared.keyword.Keyword.{Keyword}
use Rattle.strkw_keywords.specs.declared.keyword.Keyword.TheVariants.{ContentMediaType}
use Rattle.strkw_keywords.specs.declared.keyword.Keyword.TheVariants.{ContentEncoding}
use Rattle.strkw_keywords.specs.declared.keyword.Keyword.TheVariants.{ContentSchema, Format}
use Rattle.strkw_keywords.specs.declared.keyword.Keyword.TheVariants.{MinLength, MaxLength, Pattern}
use Rattle.strkw_keywords.specs.declared.values.Values.{Values}
use Rattle.strkw_keywords.specs.Keywords.{keyword_name}
use Rattle.strkw_keywords.specs.Object.{keywords}

-- the value that is held for a keyword
abbrev pub held_value : Values → Keyword → Option Data
held_value values ContentMediaType = option_map (λ v. view v.now) values.content_media_type
held_value values ContentEncoding = option_map (λ v. view v.now) values.content_encoding
held_value values ContentSchema = option_map (λ v. view v.now) values.content_schema
held_value values Format = option_map (λ v. view v.now) values.format
held_value values MinLength = option_map (λ v. view v.now) values.min_length
held_value values MaxLength = option_map (λ v. view v.now) values.max_length
held_value values Pattern = option_map (λ v. view v.now) values.pattern

-- these are the values of an object at the seven keywords
pub record AreValuesOf (ms : Members) (values : Values) : Type 0 where
  pub same : (keyword : Keyword) → held_value values keyword ≡ get_member (keyword_name keyword) ms

-- some members, and in front of them what is there at a keyword
abbrev pub with_value : Keyword → Option Data → Members → Members
with_value keyword (Some d) ms = member (keyword_name keyword) d ms
with_value keyword None ms = ms

abbrev pub members_at : (Keyword → Option Data) → List Keyword → Members
members_at at [] = no_members
members_at at (k ∷ ks) = with_value k (at k) (members_at at ks)

-- an object with these values, and nothing else
abbrev pub members_of : Values → Members
members_of values = members_at (held_value values) keywords
