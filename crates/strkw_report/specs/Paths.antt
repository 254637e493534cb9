-- JSON Pointers (RFC 6901). `/` and `~` are ASCII, so a text may be a list of its characters or of
-- its UTF-8 bytes: the law `segments_escaped_by_characters` says that the two agree.
use Rattle.std.specs.Prelude.{ℕ, List, ◌∷◌, [], ◌++◌, if◌then◌else◌, ◌==◌, flat_map, codes}

-- section 3: in a segment, `~` (126) is written `~0`, and `/` (47) is written `~1`
abbrev pub escaped_char : ℕ → List ℕ
escaped_char c = if c == 126 then codes "~0" else (if c == 47 then codes "~1" else c ∷ [])

abbrev pub escaped_segment : List ℕ → List ℕ
escaped_segment segment = flat_map escaped_char segment

-- the pointer to the member or the item `segment` of the value at `path`: `/` (47), and then the
-- segment
abbrev pub path_below : List ℕ → List ℕ → List ℕ
path_below path segment = path ++ 47 ∷ escaped_segment segment
