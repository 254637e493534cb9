-- JSON, RFC 8259, as `serde_json` reads it.
use Rattle.std.specs.Prelude.{◌≡◌, ℕ, List, Option, Some, None, IsSome}
use Rattle.std.specs.Str.{IsUtf8}
use Rattle.serde_json.specs.Data.{Data}
use Rattle.serde_json.specs.Read.{read}

-- the text has a reading
abbrev pub IsJson : List ℕ → Type 0
IsJson text = IsSome (read text)

-- the value that bytes are, or that they are none: where they are no UTF-8 text, or no JSON
abbrev pub IsReading : List ℕ → Option Data → Type 0
IsReading bytes (Some d) = IsUtf8 bytes × (read bytes ≡ Some d)
IsReading bytes None = IsUtf8 bytes → read bytes ≡ None
