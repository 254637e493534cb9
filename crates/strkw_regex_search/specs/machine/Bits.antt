-- The answers of bits.
use Rattle.std.specs.Prelude.{ℕ, zero, suc, ◌/◌, ◌%◌, ◌^◌, ◌==◌, Bool, List, [], ◌∷◌, ◌++◌}
use Rattle.strkw_regex_search.specs.declared.bits.Bits.{Bits}

-- the digit of base 2 with so many below it is one
abbrev pub bit : ℕ → ℕ → Bool
bit word k = (word / 2 ^ k) % 2 == 1

-- the first bits of a word, so many
unfoldable pub bits_in : ℕ → ℕ → List Bool
bits_in word zero = []
bits_in word (suc n) = bits_in word n ++ (bit word n ∷ [])

-- those of full words
abbrev pub bits_of_words : List ℕ → List Bool
bits_of_words [] = []
bits_of_words (w ∷ ws) = bits_in w 64 ++ bits_of_words ws

abbrev pub bits_of : Bits → List Bool
bits_of b = bits_of_words b.words.items ++ bits_in b.last b.filled

abbrev pub rows_of : List Bits → List (List Bool)
rows_of [] = []
rows_of (b ∷ bs) = bits_of b ∷ rows_of bs
