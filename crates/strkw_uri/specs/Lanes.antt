-- Classes of ASCII characters as tables of 16 bytes, and how far a text goes on by one of them.
use Rattle.std.specs.Prelude.{◌≡◌, ℕ, ◌<◌, ◌≤◌, Bool, true, false, not, ◌==◌, ◌||◌, ◌&&◌, ◌+◌, ◌/◌}
use Rattle.std.specs.Prelude.{◌%◌, List, [], ◌∷◌, slice_index, bit_and}
use Rattle.std.specs.Str.{byte}
use Rattle.std.specs.Char.{is_ascii_hexdigit}

-- bit h at place h, for the upper half h of a character below 128
abbrev pub upper_bits : List ℕ
upper_bits = 1 ∷ 2 ∷ 4 ∷ 8 ∷ 16 ∷ 32 ∷ 64 ∷ 128 ∷ 0 ∷ 0 ∷ 0 ∷ 0 ∷ 0 ∷ 0 ∷ 0 ∷ 0 ∷ []

-- bit h of entry l of the table stands for the character 16 * h + l: what the table holds of it
abbrev pub members : List ℕ → ℕ → ℕ
members table c = bit_and (slice_index table (c % 16)) (slice_index upper_bits (c / 16))

abbrev pub is_in : List ℕ → ℕ → Bool
is_in table c = not (members table c == 0)

-- at i stands "%" before two hexadecimal digits
abbrev pub is_escape_at : List ℕ → ℕ → Bool
is_escape_at bytes i = slice_index bytes i == byte "%"
    && is_ascii_hexdigit (slice_index bytes (i + 1))
    && is_ascii_hexdigit (slice_index bytes (i + 2))

-- at i stands a byte of the class, or an escape begins
abbrev pub goes_on : (ℕ → Bool) → List ℕ → ℕ → Bool
goes_on class bytes i = class (slice_index bytes i) || is_escape_at bytes i

-- Where a plain loop over n places stops, which asks of each whether it passes: after r of them.
pub record IsRun (passes : ℕ → Bool) (from n r : ℕ) : Type 0 where
  pub within : r ≤ n
  pub passed : (i : ℕ) → i < r → passes (from + i) ≡ true
  pub stopped : r < n → passes (from + r) ≡ false
