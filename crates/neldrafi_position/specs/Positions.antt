-- Lines and columns. A text is its UTF-8 bytes.
use Rattle.std.specs.Prelude.{◌==◌, ◌+◌, ◌-◌, ℕ, List, Bool, ◌||◌, count_by, length, nat_le, nat_lt, unwrap_or}
use Rattle.std.specs.List.{after_last}
use Rattle.std.specs.Str.{byte}
use Rattle.neldrafi_position.specs.Parts.{behind_space}
use Rattle.neldrafi_position.specs.Places.{value_at}

abbrev pub is_line_feed : ℕ → Bool
is_line_feed c = c == byte "\n"

-- a character has one byte that is not of 0x80 to 0xBF: its first (RFC 3629, section 3)
abbrev pub begins_character : ℕ → Bool
begins_character c = nat_lt c 0x80 || nat_le 0xC0 c

-- the line and the column, from 1, of what follows a text
abbrev pub line_behind : List ℕ → ℕ
line_behind text = 1 + count_by is_line_feed text

abbrev pub column_behind : List ℕ → ℕ
column_behind text = 1 + count_by begins_character (after_last is_line_feed text)

-- where the value at a pointer begins, or if there is none the value that the whole text is
abbrev pub offset_of : List ℕ → List ℕ → ℕ
offset_of pointer text = length text - length (unwrap_or (value_at pointer text) (behind_space text))
