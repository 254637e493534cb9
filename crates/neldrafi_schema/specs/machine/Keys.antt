-- Keys of values, by which equal values are found: values that are the same have the same key.
use Rattle.std.specs.Prelude.{ℕ, ◌&&◌, Bool, true, false, Float, Option, Some, None, if◌then◌else◌}
use Rattle.std.specs.Prelude.{List, [], ◌∷◌, ◌++◌, ℤ, pos, int_lt, unsigned_abs}
use Rattle.std.specs.Int.{w64, w128, to_be_bytes}
use Rattle.std.specs.Float.{float_key, float_zero, two_to, minus_two_to}
use Rattle.std.specs.Float.{binary64, float_to_unsigned, float_to_signed}
use Rattle.serde_json.specs.Data.{Num, Data, null, boolean, number, string, array, object}
use Rattle.serde_json.specs.Data.{Items, no_items, item, Members, no_members, member}
use Rattle.serde_json.specs.Find.{as_integer, to_float}
use Rattle.neldrafi_schema.specs.Numbers.{is_between, is_whole_float}

-- ---- numbers: a whole number of 64 bits has the same key however it is written

abbrev pub sign_of : Bool → ℕ
sign_of true = 3
sign_of false = 4

abbrev pub whole_bytes : Bool → ℕ → List ℕ
whole_bytes is_negative n = sign_of is_negative ∷ to_be_bytes w128 n

abbrev pub is_natural : Float → Bool
is_natural x = is_whole_float x && is_between float_zero x (two_to 64)

abbrev pub is_negative_whole : Float → Bool
is_negative_whole x = is_whole_float x && is_between (minus_two_to 63) x float_zero

abbrev pub float_bytes : Float → List ℕ
float_bytes x = if is_natural x then whole_bytes false (float_to_unsigned w64 x)
    else (if is_negative_whole x then whole_bytes true (unsigned_abs (float_to_signed w64 x))
    else 5 ∷ to_be_bytes w64 (float_key binary64 x))

abbrev pub whole_key : Option ℤ → Float → List ℕ
whole_key (Some z) x = whole_bytes (int_lt z (pos 0)) (unsigned_abs z)
whole_key None x = float_bytes x

abbrev pub number_key : Num → List ℕ
number_key x = whole_key (as_integer x) (to_float x)

-- ---- values: no text has the byte 255

abbrev pub truth_of : Bool → ℕ
truth_of true = 2
truth_of false = 1

abbrev pub text_key : List ℕ → List ℕ
text_key s = 6 ∷ s ++ 255 ∷ []

abbrev mutual
  pub key_of : Data → List ℕ
  key_of null = 0 ∷ []
  key_of (boolean b) = truth_of b ∷ []
  key_of (number x) = number_key x
  key_of (string s) = text_key s
  key_of (array ds) = 7 ∷ items_key ds ++ 255 ∷ []
  key_of (object ms) = 8 ∷ members_key ms ++ 255 ∷ []

  pub items_key : Items → List ℕ
  items_key no_items = []
  items_key (item d ds) = key_of d ++ items_key ds

  pub members_key : Members → List ℕ
  members_key no_members = []
  members_key (member k d ms) = text_key k ++ key_of d ++ members_key ms
