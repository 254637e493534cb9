-- The byte order mark (RFC 3629, section 6).
use Rattle.std.specs.Prelude.{ℕ, List, [], ◌∷◌, take, drop, if◌then◌else◌}
use Rattle.std.specs.Str.{bytes_eq}

-- a text without the byte order mark at its start (RFC 3629, section 6)
abbrev pub without_mark : List ℕ → List ℕ
without_mark text = if bytes_eq (take 3 text) (0xEF ∷ 0xBB ∷ 0xBF ∷ []) then drop 3 text else text
