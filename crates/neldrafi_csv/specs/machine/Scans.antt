-- What the scan of a field finds.
use Rattle.std.specs.Prelude.{◌≡◌, ◌≢◌, ◌≤◌, ◌+◌, ◌-◌, ℕ, Bool, true, false, List, ◌∷◌, length, take, drop}
use Rattle.std.specs.Prelude.{Option, Some, None, slice_get, ⊤}
use Rattle.neldrafi_csv.specs.declared.scan.Known.{Known}
use Rattle.neldrafi_csv.specs.declared.scan.Scan.{Scan}
use Rattle.neldrafi_csv.specs.declared.scan.Scan.TheVariants.{Field, More, Open}
use Rattle.neldrafi_csv.specs.declared.scan.Shape.{Shape}
use Rattle.neldrafi_csv.specs.declared.scan.Shape.TheVariants.{Doubled, Escaped, Misplaced, Text}
use Rattle.neldrafi_csv.specs.Grammar.{IsEscaped, IsField, ends_field, quote}

-- the bytes between the quotes of an escaped field
abbrev pub inside_of : List ℕ → List ℕ
inside_of field = take (length field - 2) (drop 1 field)

-- the bytes of a field have this shape, and the value by it
abbrev pub HasShape : ℕ → List ℕ → Shape → Type 0
HasShape delimiter field Text = IsField delimiter field (Some field)
HasShape delimiter field Escaped = (2 ≤ length field)
    × IsField delimiter field (Some (inside_of field))
HasShape delimiter field Doubled = (2 ≤ length field) × (value : List ℕ)
    × IsEscaped (inside_of field) value × IsField delimiter field (Some value)
HasShape delimiter field Misplaced = IsField delimiter field None

-- what follows a field ends it: such a byte, or the end of the text
abbrev pub EndsBefore : ℕ → Option ℕ → Bool → Type 0
EndsBefore delimiter None is_last = is_last ≡ true
EndsBefore delimiter (Some c) is_last = ends_field delimiter c ≡ true

-- a field of so many bytes is at the front of bytes
pub record IsFieldAt (delimiter : ℕ) (bytes : List ℕ) (is_last : Bool) (shape : Shape) (size : ℕ) :
    Type 0 where
  pub within : size ≤ length bytes
  pub field : HasShape delimiter (take size bytes) shape
  pub ends : EndsBefore delimiter (slice_get bytes size) is_last

-- bytes begin with an escaped field that is not closed
pub record StaysOpen (bytes : List ℕ) : Type 0 where
  pub inside : List ℕ
  pub value : List ℕ
  pub splits : bytes ≡ quote ∷ inside
  pub escaped : IsEscaped inside value

-- the bytes between the quotes of a field of this shape have this value
abbrev pub IsShaped : Shape → List ℕ → List ℕ → Type 0
IsShaped Text inside value = ⊥
IsShaped Escaped inside value = value ≡ inside
IsShaped Doubled inside value = ⊤
IsShaped Misplaced inside value = ⊥

-- so many of the bytes behind an opening quote are in quotes, in a field of this shape
pub record IsInside (inside : List ℕ) (known : Known) : Type 0 where
  pub value : List ℕ
  pub within : known.count ≤ length inside
  pub escaped : IsEscaped (take known.count inside) value
  pub shaped : IsShaped known.shape (take known.count inside) value

-- the same of the bytes of a field
abbrev pub IsKnown : List ℕ → Known → Type 0
IsKnown bytes known = IsInside (drop 1 bytes) known

abbrev pub IsScanned : ℕ → List ℕ → Bool → Scan → Type 0
IsScanned delimiter bytes is_last (Field shape size) = IsFieldAt delimiter bytes is_last shape size
IsScanned delimiter bytes is_last Open = (is_last ≡ true) × StaysOpen bytes
IsScanned delimiter bytes is_last (More known) = (is_last ≡ false) × IsKnown bytes known

-- the quote that closes a field, behind its opening quote, follows so many bytes
pub record Closes (inside : List ℕ) (count : ℕ) (shape : Shape) : Type 0 where
  pub value : List ℕ
  pub escaped : IsEscaped (take count inside) value
  pub shaped : IsShaped shape (take count inside) value
  pub closes : slice_get inside count ≡ Some quote
  pub single : slice_get inside (count + 1) ≢ Some quote
