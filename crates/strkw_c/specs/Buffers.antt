-- What a caller's buffer and the count beside it hold after a text was to be put there.
use Rattle.std.specs.Prelude.{◌≡◌, ◌<◌, ℕ, List, ◌++◌, length, drop}

-- the text stands at the head of the buffer, what is behind it is as it was, and the count is its
abbrev pub IsPut : List ℕ → List ℕ → List ℕ → ℕ → Type 0
IsPut text old new count = (new ≡ text ++ drop (length text) old) × (count ≡ length text)

-- the buffer has too little room and is as it was, and the count is the room that is needed
abbrev pub IsTooLong : List ℕ → List ℕ → List ℕ → ℕ → Type 0
IsTooLong text old new count = (length old < length text) × (new ≡ old) × (count ≡ length text)
