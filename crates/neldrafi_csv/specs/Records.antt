-- The records of a text (RFC 4180, section 2). Lines end with CRLF, CR or LF, the last one also with the text; blank
-- lines are no records.
use Rattle.std.specs.Prelude.{◌≡◌, ◌≢◌, ◌⊎◌, ◌^◌, ◌≤◌, ◌+◌, ℕ, true, List, [], ◌∷◌, ◌++◌, length, Option, Some, None}
use Rattle.std.specs.Prelude.{IfSome, map, slice_get}
use Rattle.std.specs.Option.{unwrap_or}
use Rattle.neldrafi_csv.specs.declared.place.Place.{Place}
use Rattle.neldrafi_csv.specs.Grammar.{AreBefore, IsEscaped, IsRecord, is_line_byte, quote}
use Rattle.neldrafi_csv.specs.Lines.{AreLineBytes, place_after}

-- a text is at its end, or at the end of a line
abbrev pub EndsRecord : List ℕ → Type 0
EndsRecord rest = IfSome (slice_get rest 0) (λ c. is_line_byte c ≡ true)

-- The next record of a text, which begins at a place, has fields with these values and begins on this line; the rest
-- of the text is at another place.
pub record TakesRecord (delimiter : ℕ) (place : Place) (text : List ℕ) (line : ℕ)
    (values : List (Option (List ℕ))) (behind : Place) (rest : List ℕ) : Type 0 where
  pub blank : List ℕ
  pub bytes : List ℕ
  pub splits : text ≡ blank ++ (bytes ++ rest)
  pub skips : AreLineBytes blank
  pub some : bytes ≢ []
  pub reads : IsRecord delimiter bytes values
  pub ends : EndsRecord rest
  pub begins : line ≡ (place_after place blank).line
  pub leaves : behind ≡ place_after (place_after place blank) bytes

-- a text has no record
abbrev pub HasNoRecord : List ℕ → Type 0
HasNoRecord text = AreLineBytes text

-- In the next record of a text, which begins at a place, an escaped field begins on this line and is not closed.
pub record IsOpen (delimiter : ℕ) (place : Place) (text : List ℕ) (line : ℕ) : Type 0 where
  pub blank : List ℕ
  pub before : List ℕ
  pub inside : List ℕ
  pub values : List (Option (List ℕ))
  pub value : List ℕ
  pub splits : text ≡ blank ++ (before ++ (quote ∷ inside))
  pub skips : AreLineBytes blank
  pub fields : AreBefore delimiter before values
  pub stays : IsEscaped inside value
  pub at_line : line ≡ (place_after (place_after place blank) before).line

-- somewhere in a text, which begins at a place, the line is past a `u64`, or it has more bytes than that counts
pub record IsTooLong (place : Place) (text : List ℕ) : Type 0 where
  pub before : List ℕ
  pub rest : List ℕ
  pub splits : text ≡ before ++ rest
  pub past : (2 ^ 64 ≤ (place_after place before).line) ⊎ (2 ^ 64 ≤ length before + 1)

-- The number, from 1, of the first of the fields with these values in which a quote is misplaced, if there is one.
abbrev pub IsMisplaced : List (Option (List ℕ)) → Option ℕ → Type 0
IsMisplaced values None = (whole : List (List ℕ)) × (values ≡ map (λ value. Some value) whole)
IsMisplaced values (Some number) = (whole : List (List ℕ)) × (others : List (Option (List ℕ)))
    × (values ≡ map (λ value. Some value) whole ++ (None ∷ others)) × (number ≡ length whole + 1)

-- the values of fields in which no quote is misplaced
abbrev pub texts_of : List (Option (List ℕ)) → List (List ℕ)
texts_of values = map (λ value. unwrap_or value []) values
