-- The messages about a value.
use Rattle.std.specs.Prelude.{◌≡◌, ℕ, List, [], ◌∷◌, ◌++◌, false, length, take}
use Rattle.neldrafi_position.specs.Positions.{column_behind, line_behind, offset_of}
use Rattle.neldrafi_position.specs.declared.position.Position.{Position}
use Rattle.neldrafi_schema.specs.Errors.{Error, instance_path_of, prints_float}
use Rattle.neldrafi_check.specs.Forms.{Form}

-- ---- where a value is, by its location

abbrev pub Positions : Type 0
Positions = List ℕ → Position

-- in a document with this text
abbrev pub in_text : List ℕ → Positions
in_text text location = record {
  line = line_behind (take (offset_of location text) text);
  column = column_behind (take (offset_of location text) text);
}

-- in a line with this number and text
abbrev pub in_line : ℕ → List ℕ → Positions
in_line number text location = record { line = number; column = (in_text text location).column }

-- at the front of a line
abbrev pub at_front : ℕ → Positions
at_front number location = record { line = number; column = 1 }

-- ---- messages

-- These bytes are the message about an error. Of the digits of a float nothing is said.
abbrev pub Says : Form → Positions → Error → List ℕ → Type 0
Says form positions e made =
    prints_float e ≡ false → made ≡ form.said (positions (instance_path_of e)) e

-- one message for each error, in their order
abbrev pub AreSaid : Form → Positions → List Error → List ℕ → Type 0
AreSaid form positions [] made = made ≡ []
AreSaid form positions (e ∷ es) made = (first : List ℕ) × (later : List ℕ)
    × Says form positions e first × AreSaid form positions es later × (made ≡ first ++ later)

-- These bytes are the messages about the errors that are these, and so many they are.
pub record Told (these : List Error → Type 0) (form : Form) (positions : Positions) (count : ℕ)
    (made : List ℕ) : Type 0 where
  pub errors : List Error
  pub reported : these errors
  pub counted : count ≡ length errors
  pub said : AreSaid form positions errors made

-- new is old, and these bytes behind it
abbrev pub Adds : (List ℕ → Type 0) → List ℕ → List ℕ → Type 0
Adds these old new = (made : List ℕ) × (new ≡ old ++ made) × these made
