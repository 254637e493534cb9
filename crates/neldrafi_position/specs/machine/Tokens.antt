-- The tokens that the code has.
use Rattle.std.specs.Prelude.{◌==◌, ◌^◌, ℕ, List, [], ◌∷◌, Bool, false, ◌&&◌, ◌||◌, Option, Some, None}
use Rattle.std.specs.Prelude.{if◌then◌else◌, nat_lt}
use Rattle.std.specs.Str.{byte}
use Rattle.std.specs.Str.Parse.{digits_value}
use Rattle.neldrafi_position.specs.Places.{is_index}

-- a token begins with a plus, or with a 0 before more
abbrev pub begins_oddly : List ℕ → Bool
begins_oddly [] = false
begins_oddly (c ∷ []) = c == byte "+"
begins_oddly (c ∷ d ∷ rest) = c == byte "+" || c == byte "0"

-- an index of 64 bits
unfoldable pub index_in_word : List ℕ → Option ℕ
index_in_word token = if is_index token && nat_lt (digits_value 10 token) (2 ^ 64)
    then Some (digits_value 10 token) else None
