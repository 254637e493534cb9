-- Numbers: their order, equality, multiples, and sizes. Whole numbers are compared as such; where one
-- of two is kept as a float, both are compared as binary64.
use Rattle.std.specs.Prelude.{ℕ, ◌==◌, ◌%◌, Bool, true, not, ◌&&◌, Float, Option, Some}
use Rattle.std.specs.Prelude.{None, if◌then◌else◌, option_and_then}
use Rattle.std.specs.Prelude.{ℤ, pos, int_lt, unsigned_abs}
use Rattle.std.specs.Ordering.{int_eq}
use Rattle.std.specs.Int.{w64}
use Rattle.std.specs.Float.{trunc, float_zero, two_to, minus_two_to, float_is_finite}
use Rattle.std.specs.Float.{float_to_unsigned, float_to_signed}
use Rattle.std.specs.Float.Ieee.{binary64, eq, lt, le, div}
use Rattle.serde_json.specs.Data.{Num, unsigned, negative, float, Data}
use Rattle.serde_json.specs.Find.{as_number, as_integer, to_float}

abbrev pub is_whole_float : Float → Bool
is_whole_float x = eq (trunc binary64 x) x

-- a number has no fractional part: it is kept as a whole number, or it is a float that is its own
-- whole part
abbrev pub is_whole : Num → Bool
is_whole (unsigned n) = true
is_whole (negative z) = true
is_whole (float x) = is_whole_float x

-- ---- order

abbrev pub whole_less : Option ℤ → Option ℤ → Bool → Bool
whole_less (Some a) (Some b) otherwise = int_lt a b
whole_less (Some a) None otherwise = otherwise
whole_less None b otherwise = otherwise

abbrev pub is_less : Num → Num → Bool
is_less a b = whole_less (as_integer a) (as_integer b) (lt (to_float a) (to_float b))

-- ---- equality, which is exact where both are whole, however they are written

abbrev pub is_between : Float → Float → Float → Bool
is_between low x high = le low x && lt x high

-- a float is this whole number of 64 bits
abbrev pub is_float_of : ℤ → Float → Bool
is_float_of z x = is_whole_float x && (if int_lt z (pos 0)
    then is_between (minus_two_to 63) x float_zero
    && (unsigned_abs (float_to_signed w64 x) == unsigned_abs z)
    else is_between float_zero x (two_to 64) && (float_to_unsigned w64 x == unsigned_abs z))

abbrev pub same_whole : Option ℤ → Option ℤ → Float → Float → Bool
same_whole (Some a) (Some b) x y = int_eq a b
same_whole (Some a) None x y = is_float_of a y
same_whole None (Some b) x y = is_float_of b x
same_whole None None x y = eq x y

abbrev pub same_number : Num → Num → Bool
same_number a b = same_whole (as_integer a) (as_integer b) (to_float a) (to_float b)

-- ---- multiples (Validation, draft 7, section 6.2.1)

-- of binary64: the quotient is a whole number
abbrev pub has_whole_quotient : Float → Float → Bool
has_whole_quotient x m = float_is_finite (div binary64 x m) && is_whole_float (div binary64 x m)

abbrev pub whole_multiple : Option ℤ → Option ℤ → Bool → Bool
whole_multiple (Some x) (Some m) otherwise =
    not (unsigned_abs m == 0) && (unsigned_abs x % unsigned_abs m == 0)
whole_multiple (Some x) None otherwise = otherwise
whole_multiple None m otherwise = otherwise

abbrev pub is_multiple : Num → Num → Bool
is_multiple m x = whole_multiple (as_integer x) (as_integer m)
    (has_whole_quotient (to_float x) (to_float m))

-- a number above 0
abbrev pub if_positive : Num → Option Num
if_positive x = if is_less (unsigned 0) x then Some x else None

-- ---- sizes, which are whole numbers of at least 0; a float from 2 ^ 64 on is the greatest below

abbrev pub size_of : Num → Option ℕ
size_of (unsigned n) = Some n
size_of (negative z) = None
size_of (float x) = if is_whole_float x && le float_zero x then Some (float_to_unsigned w64 x) else None

abbrev pub size_in : Data → Option ℕ
size_in d = option_and_then size_of (as_number d)
