-- A text as a JSON string.
use Rattle.std.specs.Prelude.{ℕ, List}
use Rattle.serde_json.specs.Data.{string}
use Rattle.serde_json.specs.Written.{compact_text}

abbrev pub quoted_text : List ℕ → List ℕ
quoted_text text = compact_text (string text)
