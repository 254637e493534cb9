-- What is noted of a text.
use Rattle.std.specs.Prelude.{ℕ, List, Option, Some, None, option_map}
use Rattle.serde_json.specs.Data.{Data}
use Rattle.serde_json.specs.View.{view}
use Rattle.strkw_report.specs.Paths.{path_below}
use Rattle.strkw_keywords.specs.declared.keyword.Keyword.{Keyword}
use Rattle.strkw_keywords.specs.Keywords.{keyword_name}
use Rattle.strkw_keywords.specs.declared.parts.Note.{Note}

pub record Remark : Type 0 where
  pub schema_path : List ℕ
  pub value : Data

abbrev pub remark_of : Note → Remark
remark_of n = record { schema_path = n.schema_path; value = view n.value }

-- what a keyword notes, of a schema object at this location
abbrev pub remark_at : List ℕ → Keyword → Data → Remark
remark_at location keyword value = record {
  schema_path = path_below location (keyword_name keyword);
  value = value;
}

-- the annotation of a node: what is noted of a text, whatever its errors; a node that is no text
-- has none
abbrev pub annotation_of : Option Remark → Option (List ℕ) → Option Data
annotation_of remark None = None
annotation_of remark (Some text) = option_map (λ r. r.value) remark
