-- Punycode, RFC 3492: what encodes a text. The numbers in parentheses are its sections. The
-- parameters of (5) are written out: base 36, tmin 1, tmax 26, skew 38, damp 700, initial bias 72
-- and initial code point 128. Numbers have no upper bound here, so nothing overflows (6.4). A text
-- is a list of characters, and an encoding a list of ASCII characters.
use Rattle.std.specs.Prelude.{◌≡◌, ℕ, zero, suc, ◌+◌, ◌-◌, ◌*◌, ◌/◌, ◌%◌, ◌<◌, ◌≤◌, min, max, Bool}
use Rattle.std.specs.Prelude.{true, false, ◌==◌, nat_lt, nat_le, List, [], ◌∷◌, ◌++◌, length, map}
use Rattle.std.specs.Prelude.{filter, count_by, if◌then◌else◌}
use Rattle.std.specs.Char.{to_ascii_lowercase}
use Rattle.std.specs.List.{before_last, after_last}
use Rattle.std.specs.Str.{byte}

-- (5) the character that the encoder writes for a digit: a to z for 0 to 25, and 0 to 9 for 26 to
-- 35
unfoldable pub digit_char : ℕ → ℕ
digit_char d = if nat_lt d 26 then d + byte "a" else d - 26 + byte "0"

-- (6.2) the threshold under a bias, clamped to 1..26; k is 36 * (j + 1) for digit j
abbrev pub threshold : ℕ → ℕ → ℕ
threshold bias k = max 1 (min 26 (k - bias))

-- ---- (3.3) generalised variable-length integers

-- the weight of digit j
unfoldable pub weight : ℕ → ℕ → ℕ
weight bias zero = 1
weight bias (suc j) = weight bias j * (36 - threshold bias (36 * (j + 1)))

-- from digit j on: the sum of the digits times their weights
unfoldable pub weighted_sum : ℕ → ℕ → List ℕ → ℕ
weighted_sum bias j [] = 0
weighted_sum bias j (d ∷ ds) = d * weight bias j + weighted_sum bias (suc j) ds

-- from digit j on: each digit before the last is at least its threshold, and the last is below its
-- own
unfoldable pub EndsBelowThreshold : ℕ → ℕ → List ℕ → Type 0
EndsBelowThreshold bias j [] = ⊥
EndsBelowThreshold bias j (d ∷ []) = d < threshold bias (36 * (j + 1))
EndsBelowThreshold bias j (d ∷ e ∷ ds) = (threshold bias (36 * (j + 1)) ≤ d) × (d ≤ 35)
    × EndsBelowThreshold bias (suc j) (e ∷ ds)

-- the digits, least significant first, stand for a delta under a bias
pub record AreDigitsOf (bias delta : ℕ) (digits : List ℕ) : Type 0 where
  pub ends : EndsBelowThreshold bias 0 digits
  pub sum : weighted_sum bias 0 digits ≡ delta

-- the digits of q from k on, in at most `turns` steps; a q needs at most q of them
unfoldable pub digits_from : ℕ → ℕ → ℕ → ℕ → List ℕ
digits_from zero bias k q = q ∷ []
digits_from (suc turns) bias k q =
    let t = threshold bias k in
    let more = (t + (q - t) % (36 - t)) ∷ digits_from turns bias (k + 36) ((q - t) / (36 - t)) in
    if nat_lt q t then q ∷ [] else more

-- the digits of a delta, the only ones that `AreDigitsOf` allows
abbrev pub digits_of : ℕ → ℕ → List ℕ
digits_of bias delta = digits_from delta bias 36 delta

-- ---- (6.1) bias adaptation

-- while above 455 divide by 35 and count k up by 36, in at most `turns` turns; a delta needs at
-- most delta of them
unfoldable pub scale : ℕ → ℕ → ℕ → ℕ
scale zero delta k = k + 36 * delta / (delta + 38)
scale (suc turns) delta k =
    let further = scale turns (delta / 35) (k + 36) in
    if nat_lt 455 delta then further else k + 36 * delta / (delta + 38)

-- the bias after a delta, where `count` characters are placed with it
unfoldable pub adapt : ℕ → ℕ → Bool → ℕ
adapt delta count first =
    let damped = if first then delta / 700 else delta / 2 in
    let spread = damped + damped / count in
    scale spread spread 0

-- ---- (6.3) the encoding of a text

-- a character from 128 on, and how many of the characters that are placed before it stand left of
-- it
pub record Insertion : Type 0 where
  pub point : ℕ
  pub place : ℕ

-- (3.1) the characters below 128
abbrev pub basic_of : List ℕ → List ℕ
basic_of text = filter (λ c. nat_lt c 128) text

-- (3.2) the insertions of what follows `front`, in order of place: those left of a character that
-- are placed before it are the ones that are not above it
unfoldable pub insertions_after : List ℕ → List ℕ → List Insertion
insertions_after front [] = []
insertions_after front (c ∷ rest) =
    let more = insertions_after (front ++ c ∷ []) rest in
    if nat_lt c 128 then more else record { point = c; place = count_by (λ x. nat_le x c) front }
    ∷ more

-- before the first that is not below it
unfoldable pub put_in_order : Insertion → List Insertion → List Insertion
put_in_order x [] = x ∷ []
put_in_order x (y ∷ ys) = if nat_le x.point y.point then x ∷ y ∷ ys else y ∷ put_in_order x ys

-- in order of code point, and what has one code point as it stood
unfoldable pub in_order : List Insertion → List Insertion
in_order [] = []
in_order (x ∷ xs) = put_in_order x (in_order xs)

-- the insertions of a text, in order of code point and then of place
unfoldable pub insertions : List ℕ → List Insertion
insertions text = in_order (insertions_after [] text)

-- (3.2) the deltas, where `placed` characters stand, the last one came at point n, and i is one
-- past its place: each counts the places that a decoder passes from there, placed + 1 for each code
-- point
unfoldable pub deltas : ℕ → ℕ → ℕ → List Insertion → List ℕ
deltas n i placed [] = []
deltas n i placed (x ∷ xs) =
    ((x.point - n) * (placed + 1) + x.place - i) ∷ deltas x.point (x.place + 1) (placed + 1) xs

-- the digits of the deltas in a row, each under the bias that those before it leave (3.4)
unfoldable pub digits_in_row : ℕ → ℕ → Bool → List ℕ → List ℕ
digits_in_row bias placed first [] = []
digits_in_row bias placed first (delta ∷ ds) =
    digits_of bias delta ++ digits_in_row (adapt delta (placed + 1) first) (placed + 1) false ds

-- the basic characters, and a hyphen after them if there are any
unfoldable pub delimited : List ℕ → List ℕ
delimited [] = []
delimited (c ∷ basic) = (c ∷ basic) ++ byte "-" ∷ []

-- the Punycode of a text
unfoldable pub punycode : List ℕ → List ℕ
punycode text =
    let basic = basic_of text in
    delimited basic ++ map digit_char (digits_in_row 72 (length basic) true
    (deltas 128 0 (length basic) (insertions text)))

-- ---- (3.1) the parts of an encoding

-- what stands before the last hyphen, and nothing without one
abbrev pub basic_part : List ℕ → List ℕ
basic_part payload = before_last (λ c. c == byte "-") payload

-- what follows the last hyphen, if it stands above place 0, and else all
abbrev pub encoded_part : List ℕ → List ℕ
encoded_part payload = if length (basic_part payload) == 0 then payload
    else after_last (λ c. c == byte "-") payload

-- equal but for the case of the letters of the encoded part; a payload has a hyphen above place 0
-- exactly where its basic part is not empty
pub record SameUpToCase (p q : List ℕ) : Type 0 where
  pub basic : basic_part p ≡ basic_part q
  pub encoded : map to_ascii_lowercase (encoded_part p) ≡ map to_ascii_lowercase (encoded_part q)
