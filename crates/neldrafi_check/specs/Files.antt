-- What is written about a file.
use Rattle.std.specs.Prelude.{◌≡◌, ◌⊎◌, ◌+◌, ◌<◌, ℕ, List, [], ◌++◌, Bool, false, true, None, Some, IsUtf8, length}
use Rattle.std.specs.List.{list_all}
use Rattle.std.specs.Io.BufRead.{drop_through, first_line}
use Rattle.serde_json.specs.Data.{Data, string}
use Rattle.serde_json.specs.Read.{read}
use Rattle.neldrafi_position.specs.declared.position.Position.{Position}
use Rattle.neldrafi_schema.specs.Errors.{Error}
use Rattle.neldrafi_check.specs.Counting.{both, of_no_value, of_nothing}
use Rattle.neldrafi_check.specs.Forms.{Form}
use Rattle.neldrafi_position.specs.Parts.{is_space}
use Rattle.neldrafi_check.specs.Messages.{Positions, Told, at_front, in_line, in_text}
use Rattle.neldrafi_check.specs.declared.counts.Counts.{Counts}
use Rattle.neldrafi_check.specs.declared.lines.LineKind.{LineKind}
use Rattle.neldrafi_check.specs.declared.lines.LineKind.TheVariants.{Json, Text}

-- the errors that values have
abbrev pub Errors : Type 1
Errors = Data → List Error → Type 0

-- These bytes tell the errors of the document with this text, of which there are so many.
pub record DocumentTold (errors : Errors) (form : Form) (text : List ℕ) (count : ℕ) (made : List ℕ)
    : Type 0 where
  pub document : Data
  pub utf8 : IsUtf8 text
  pub is_read : read text ≡ Some document
  pub told : Told (errors document) form (in_text text) count made

-- ---- lines

-- That a line has no value is told, as one error.
abbrev pub UnreadTold : Form → ℕ → Counts → List ℕ → Type 0
UnreadTold form number counts made = (counts ≡ of_no_value) × ((at : Position) × (why : List ℕ)
    × (at.line ≡ number) × (made ≡ form.unread at why))

-- white space alone (RFC 8259, section 2)
abbrev pub is_blank : List ℕ → Bool
is_blank text = list_all is_space text

-- one value, whose errors these bytes tell, with so many errors
abbrev pub ValueTold : (List Error → Type 0) → Form → Positions → Counts → List ℕ → Type 0
ValueTold these form positions counts made =
    (counts.values ≡ 1) × Told these form positions counts.errors made

-- a JSON text, white space alone, or neither
abbrev pub JsonTold : Errors → Form → ℕ → List ℕ → Counts → List ℕ → Type 0
JsonTold errors form number line counts made =
    (IsUtf8 line × (is_blank line ≡ true) × (counts ≡ of_nothing) × (made ≡ []))
    ⊎ (((document : Data) × IsUtf8 line × (read line ≡ Some document)
    × ValueTold (errors document) form (in_line number line) counts made)
    ⊎ ((IsUtf8 line → (is_blank line ≡ false) × (read line ≡ None))
    × UnreadTold form number counts made))

-- a string, or no UTF-8
abbrev pub TextTold : Errors → Form → ℕ → List ℕ → Counts → List ℕ → Type 0
TextTold errors form number line counts made =
    (IsUtf8 line × ValueTold (errors (string line)) form (at_front number) counts made)
    ⊎ ((IsUtf8 line → ⊥) × UnreadTold form number counts made)

-- These bytes tell the errors of the line of this number; so many are its values and its errors.
abbrev pub LineTold : Errors → Form → LineKind → ℕ → List ℕ → Counts → List ℕ → Type 0
LineTold errors form Json number line counts made = JsonTold errors form number line counts made
LineTold errors form Text number line counts made = TextTold errors form number line counts made

-- The same of lines, the first of which has this number. LF or CR LF ends a line; the last needs no
-- end.
pub data LinesTold (told : ℕ → List ℕ → Counts → List ℕ → Type 0)
    : ℕ → List ℕ → Counts → List ℕ → Type 0 where
  none : (number : ℕ) → LinesTold told number [] of_nothing []
  more : (number : ℕ) (bytes : List ℕ) (counts others : Counts) (made later : List ℕ)
      → 0 < length bytes → told number (first_line bytes) counts made
      → LinesTold told (number + 1) (drop_through 10 bytes) others later
      → LinesTold told number bytes (both counts others) (made ++ later)
