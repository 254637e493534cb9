-- The string keywords of JSON Schema Validation: their names, and the order in which entries are
-- looked at.
use Rattle.std.specs.Prelude.{ℕ, List, codes}
use Rattle.strkw_keywords.specs.declared.keyword.Keyword.{Keyword}
use Rattle.strkw_keywords.specs.declared.keyword.Keyword.TheVariants.{ContentMediaType}
use Rattle.strkw_keywords.specs.declared.keyword.Keyword.TheVariants.{ContentEncoding}
use Rattle.strkw_keywords.specs.declared.keyword.Keyword.TheVariants.{ContentSchema, Format}
use Rattle.strkw_keywords.specs.declared.keyword.Keyword.TheVariants.{MinLength, MaxLength, Pattern}

abbrev pub keyword_name : Keyword → List ℕ
keyword_name ContentMediaType = codes "contentMediaType"
keyword_name ContentEncoding = codes "contentEncoding"
keyword_name ContentSchema = codes "contentSchema"
keyword_name Format = codes "format"
keyword_name MinLength = codes "minLength"
keyword_name MaxLength = codes "maxLength"
keyword_name Pattern = codes "pattern"

abbrev pub keyword_place : Keyword → ℕ
keyword_place ContentMediaType = 0
keyword_place ContentEncoding = 1
keyword_place ContentSchema = 2
keyword_place Format = 3
keyword_place MinLength = 4
keyword_place MaxLength = 5
keyword_place Pattern = 6
