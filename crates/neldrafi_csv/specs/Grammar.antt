-- The grammar of CSV (RFC 4180, section 2), and how it is extended here: any byte may delimit fields; any byte but a
-- quote, a delimiter, CR and LF is text; and a field may have a misplaced quote.
use Rattle.std.specs.Prelude.{◌≡◌, ◌≢◌, ◌==◌, ◌&&◌, ◌||◌, ℕ, Bool, true, false, not, nat_lt, List, [], ◌∷◌, ◌++◌}
use Rattle.std.specs.Prelude.{Option, Some, None}
use Rattle.std.specs.List.{AllByRecursion}

-- DQUOTE, COMMA, CR and LF
abbrev pub quote : ℕ
quote = 34

abbrev pub comma : ℕ
comma = 44

abbrev pub carriage_return : ℕ
carriage_return = 13

abbrev pub line_feed : ℕ
line_feed = 10

-- a byte ends a line: CR or LF
abbrev pub is_line_byte : ℕ → Bool
is_line_byte c = (c == carriage_return) || (c == line_feed)

-- a byte may delimit fields: it is ASCII, but no quote, CR or LF
abbrev pub is_delimiter : ℕ → Bool
is_delimiter c = nat_lt c 128 && not (c == quote) && not (is_line_byte c)

-- a byte outside quotes ends a field: the delimiter, CR or LF
abbrev pub ends_field : ℕ → ℕ → Bool
ends_field delimiter c = (c == delimiter) || is_line_byte c

-- .. or is a quote; every other byte is text (TEXTDATA)
abbrev pub ends_text : ℕ → ℕ → Bool
ends_text delimiter c = (c == quote) || ends_field delimiter c

abbrev pub IsText : ℕ → List ℕ → Type 0
IsText delimiter bytes = AllByRecursion (λ c. ends_text delimiter c ≡ false) bytes

-- bytes none of which ends a field
abbrev pub IsUnended : ℕ → List ℕ → Type 0
IsUnended delimiter bytes = AllByRecursion (λ c. ends_field delimiter c ≡ false) bytes

-- The bytes between the quotes of an escaped field, and its value: each quote is doubled (2DQUOTE).
pub data IsEscaped : List ℕ → List ℕ → Type 0 where
  nothing : IsEscaped [] []
  byte : (c : ℕ) (bytes value : List ℕ) → c ≢ quote → IsEscaped bytes value
      → IsEscaped (c ∷ bytes) (c ∷ value)
  pair : (bytes value : List ℕ) → IsEscaped bytes value
      → IsEscaped (quote ∷ quote ∷ bytes) (quote ∷ value)

-- The bytes of a field, and its value, or `None` if a quote in it is misplaced.
pub data IsField (delimiter : ℕ) : List ℕ → Option (List ℕ) → Type 0 where
  -- non-escaped
  text : (bytes : List ℕ) → IsText delimiter bytes → IsField delimiter bytes (Some bytes)
  -- escaped
  escaped : (inside value : List ℕ) → IsEscaped inside value
      → IsField delimiter (quote ∷ (inside ++ (quote ∷ []))) (Some value)
  -- a quote behind text
  behind_text : (c : ℕ) (before behind : List ℕ) → IsText delimiter (c ∷ before)
      → IsUnended delimiter behind → IsField delimiter ((c ∷ before) ++ (quote ∷ behind)) None
  -- a closing quote that neither a delimiter nor the end of the record follows
  before_text : (inside value : List ℕ) (c : ℕ) (behind : List ℕ) → IsEscaped inside value
      → c ≢ quote → IsUnended delimiter (c ∷ behind)
      → IsField delimiter (quote ∷ (inside ++ (quote ∷ (c ∷ behind)))) None

-- the bytes of fields with these values, each field followed by a delimiter
unfoldable pub AreBefore : ℕ → List ℕ → List (Option (List ℕ)) → Type 0
AreBefore delimiter bytes [] = bytes ≡ []
AreBefore delimiter bytes (value ∷ values) = (field : List ℕ) × (rest : List ℕ)
    × (bytes ≡ field ++ (delimiter ∷ rest)) × IsField delimiter field value
    × AreBefore delimiter rest values

-- The bytes of a record whose fields have these values: record = field *(COMMA field).
unfoldable pub IsRecord : ℕ → List ℕ → List (Option (List ℕ)) → Type 0
IsRecord delimiter bytes [] = ⊥
IsRecord delimiter bytes (value ∷ []) = IsField delimiter bytes value
IsRecord delimiter bytes (value ∷ next ∷ values) = (field : List ℕ) × (rest : List ℕ)
    × (bytes ≡ field ++ (delimiter ∷ rest)) × IsField delimiter field value
    × IsRecord delimiter rest (next ∷ values)
