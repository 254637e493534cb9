-- What the encoded part of a payload stands for, as the decoder keeps it (RFC 3492 section 6.2).
use Rattle.std.specs.Prelude.{◌≡◌, ℕ, ◌+◌, ◌*◌, ◌<◌, ◌≤◌, ◌⊎◌, ◌==◌, List, [], ◌∷◌, map, All}
use Rattle.std.specs.Char.{to_ascii_lowercase, IsScalar}
use Rattle.strkw_label.specs.Punycode.{Insertion, digit_char, deltas, digits_in_row}

-- above each running sum of an encoding of at most 59 bytes, which places fewer than 60 characters
-- below 0x110000
abbrev pub index_bound : ℕ
index_bound = 60 * 0x110000

-- the insertions with these points and these places
unfoldable pub pair_up : List ℕ → List ℕ → List Insertion
pair_up [] places = []
pair_up (p ∷ points) [] = []
pair_up (p ∷ points) (q ∷ places) = record { point = p; place = q } ∷ pair_up points places

-- after an insertion at n, whose place is one before i, in a text of `placed` characters: each
-- within the text, and after the one before it, in order of code point and then of place
unfoldable pub InOrder : ℕ → ℕ → ℕ → List Insertion → Type 0
InOrder n i placed [] = Unit {0}
InOrder n i placed (x ∷ xs) = (n ≤ x.point) × (x.place ≤ placed) × ((i ≤ x.place) ⊎ (n < x.point))
    × InOrder x.point (x.place + 1) (placed + 1) xs

-- the digits of insertions, where `placed` characters stand and the last one came at n and before i
unfoldable pub digits_written : ℕ → ℕ → ℕ → ℕ → List Insertion → List ℕ
digits_written n i bias placed xs =
    map digit_char (digits_in_row bias placed (i == 0) (deltas n i placed xs))

-- the encoded part is, up to letter case, the digits of the insertions, over so many basic
-- characters
pub record IsEncoded (basic : ℕ) (encoded : List ℕ) (xs : List Insertion) : Type 0 where
  pub ordered : InOrder 128 0 basic xs
  pub scalar : All (λ x. IsScalar x.point) xs
  pub read : map to_ascii_lowercase encoded ≡ digits_written 128 0 72 basic xs
