-- Where the lines of a text end. A line ends with LF, with CR LF (one end), or with a CR that no LF follows. So each
-- CR ends a line, and an LF does unless it follows a CR.
use Rattle.std.specs.Prelude.{◌≡◌, ℕ, ◌+◌, ◌==◌, ◌&&◌, ◌||◌, Bool, true, false, not, if◌then◌else◌}
use Rattle.std.specs.Prelude.{List, [], ◌∷◌, drop, length}
use Rattle.std.specs.List.{AllByRecursion, take_while}
use Rattle.neldrafi_csv.specs.declared.place.Place.{Place}
use Rattle.neldrafi_csv.specs.Grammar.{carriage_return, is_line_byte, line_feed}

-- one more line has ended with this byte; the Bool: it follows a CR
abbrev pub ends_line : Bool → ℕ → Bool
ends_line after_cr c = (c == carriage_return) || ((c == line_feed) && not after_cr)

-- how many lines end in bytes; the Bool: these follow a CR
unfoldable pub line_ends : Bool → List ℕ → ℕ
line_ends after_cr [] = 0
line_ends after_cr (c ∷ rest) =
    (if ends_line after_cr c then 1 else 0) + line_ends (c == carriage_return) rest

-- what follows bytes follows a CR; the Bool: the bytes follow one
unfoldable pub ends_in_cr : Bool → List ℕ → Bool
ends_in_cr after_cr [] = after_cr
ends_in_cr after_cr (c ∷ rest) = ends_in_cr (c == carriage_return) rest

-- the start of a text
abbrev pub first_place : Place
first_place = record { line = 1; after_cr = false }

-- the place behind these bytes, which begin at a place
abbrev pub place_after : Place → List ℕ → Place
place_after place bytes = record {
  line = place.line + line_ends place.after_cr bytes;
  after_cr = ends_in_cr place.after_cr bytes;
}

-- each byte is CR or LF
abbrev pub AreLineBytes : List ℕ → Type 0
AreLineBytes bytes = AllByRecursion (λ c. is_line_byte c ≡ true) bytes

-- no byte is CR or LF
abbrev pub HasNoLineByte : List ℕ → Type 0
HasNoLineByte bytes = AllByRecursion (λ c. is_line_byte c ≡ false) bytes

-- the ends of the blank lines at the front of a text, and what follows them
abbrev pub blank_front : List ℕ → List ℕ
blank_front text = take_while is_line_byte text

abbrev pub behind_blank : List ℕ → List ℕ
behind_blank text = drop (length (blank_front text)) text
