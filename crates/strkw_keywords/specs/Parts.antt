-- What the parts of a validator say.
use Rattle.std.specs.Prelude.{◌≡◌, ℕ, List, true, Option, Some, None}
use Rattle.std.specs.Borrow.{Bor}
use Rattle.serde_json.specs.Data.{string}
use Rattle.serde_json.specs.View.{view}
use Rattle.strkw_keywords.specs.Places.{Place}
use Rattle.strkw_keywords.specs.Meanings.{Lists, row_names, codec_names, first_named}
use Rattle.strkw_keywords.specs.Remarks.{Remark, remark_at}
use Rattle.strkw_keywords.specs.declared.parts.Noted.{Noted}
use Rattle.strkw_keywords.specs.declared.parts.Noted.TheVariants.{Text, Value}
use Rattle.strkw_keywords.specs.declared.parts.RowRef.{RowRef}
use Rattle.strkw_keywords.specs.declared.parts.Parts.{Parts}

-- what is noted by a schema object at this location
abbrev pub noted_remark : List ℕ → Option Noted → Option Remark
noted_remark location None = None
noted_remark location (Some (Text keyword text)) =
    Some (remark_at location keyword (string text.now))
noted_remark location (Some (Value keyword value)) =
    Some (remark_at location keyword (view value.now))

-- the row is the first of its name, if there is one
abbrev pub IsFirst : Option RowRef → List (List ℕ) → Type 0
IsFirst None names = Unit {0}
IsFirst (Some r) names = first_named r.name.now names ≡ Some r.position

-- the rows on which a validator rests are the first of their names
abbrev pub RowsAreFirst : Parts → Lists → Type 0
RowsAreFirst parts lists = IsFirst parts.format (row_names lists.formats)
    × IsFirst parts.media_type (row_names lists.media_types)
    × IsFirst parts.codec (codec_names lists.codecs)

-- the parts of a validator at a place that rests on no row and takes no memory
abbrev pub quiet_parts : Bor Place → Option Noted → Parts
quiet_parts origin noted = record {
  origin = origin;
  noted = noted;
  format = None;
  media_type = None;
  codec = None;
  is_quiet = true;
}
