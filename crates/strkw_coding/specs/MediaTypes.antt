-- The media type "application/json".
use Rattle.std.specs.Prelude.{ℕ, List}
use Rattle.strkw_json.specs.Json.{IsJson}
use Rattle.strkw_coding.specs.declared.media_type.BuiltinMediaType.{BuiltinMediaType}
use Rattle.strkw_coding.specs.declared.media_type.BuiltinMediaType.TheVariants.{Json}

-- the text is of the media type
abbrev pub IsOfMediaType : BuiltinMediaType → List ℕ → Type 0
IsOfMediaType Json text = IsJson text
