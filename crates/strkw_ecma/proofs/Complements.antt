-- The gaps between ranges hold the characters outside these.
use Rattle.std.proofs.Common.{◌≡◌, ◌⊎◌, ℕ, ◌+◌, ◌-◌, ◌<◌, ◌≤◌, nat_lt, nat_le, Bool, true, false, ◌&&◌, ◌||◌, not, List, [], ◌∷◌, map, refl, sym, ap}
use Rattle.std.proofs.Common.{◌∙◌, ⊎_elim, arith}
use Rattle.std.proofs.lemmas.Bool.{le-leb, lt-leb, leb-true, ltb-true}
use Rattle.strkw_charset.specs.Membership.{in_sets}
use Rattle.strkw_regex_grammar.specs.Codes.{max_code_point}
use Rattle.strkw_charset.specs.declared.tree.CharSet.{CharSet}
use Rattle.strkw_charset.specs.declared.tree.CharSet.TheVariants.{Range, Property}
use Rattle.strkw_charset.proofs.Booleans.{and_true, and_left, and_right}

-- these as sets of characters, and back
abbrev pub ranges : List (ℕ × ℕ) → List CharSet
ranges = map (λ r. Range r.0 r.1)

-- the ranges of a list of sets as pairs, without its properties
abbrev pub pairs : List CharSet → List (ℕ × ℕ)
pairs [] = []
pairs (Range low high ∷ rs) = (low, high) ∷ pairs rs
pairs (Property n p ∷ rs) = pairs rs

-- the gaps before each range, from a number on, and the one behind the last
abbrev pub gaps : ℕ → List (ℕ × ℕ) → List (ℕ × ℕ)
gaps low [] = (low, max_code_point) ∷ []
gaps low (r ∷ rs) = (low, r.0 - 1) ∷ gaps (r.1 + 1) rs

-- the ranges are in order, with a gap before each
abbrev are_apart : ℕ → List (ℕ × ℕ) → Bool
are_apart low [] = true
are_apart low (r ∷ rs) = (nat_lt low r.0 && nat_le r.0 r.1) && are_apart (r.1 + 1) rs

-- two do not both hold where the first does not
no_left : (x y : Bool) → x ≡ false → (x && y) ≡ false
no_left x y e = rw e refl

-- nor where the second does not
no_right : (x y : Bool) → y ≡ false → (x && y) ≡ false
no_right true y e = e
no_right false y e = refl

-- one of two holds where the first does
or_true : (x y : Bool) → x ≡ true → (x || y) ≡ true
or_true x y e = rw e refl

-- where the first does not hold, the second decides
or_false : (x y : Bool) → x ≡ false → (x || y) ≡ y
or_false x y e = rw e refl

-- a number is less than another, or is at least that
either_side : (m n : ℕ) → (m < n) ⊎ (n ≤ m)
either_side m n = grind arith

module _ (low : ℕ) (r : ℕ × ℕ) (rs : List (ℕ × ℕ)) (a : are_apart low (r ∷ rs) ≡ true) where
  -- the first of the ranges begins above the number
  begins_above : low < r.0
  begins_above = ltb-true low r.0 (and_left _ _ (and_left (nat_lt low r.0 && nat_le r.0 r.1) _ a))

  -- it ends no earlier than it begins
  in_order : r.0 ≤ r.1
  in_order = leb-true r.0 r.1 (and_right (nat_lt low r.0) _ (and_left (nat_lt low r.0 && nat_le r.0 r.1) _ a))

  -- the ranges behind it are in order from its end on
  rest_apart : are_apart (r.1 + 1) rs ≡ true
  rest_apart = and_right (nat_lt low r.0 && nat_le r.0 r.1) _ a

-- no range of those in order from a number on has a character below it
no_range_below : (low : ℕ) (rs : List (ℕ × ℕ)) (c : ℕ) → are_apart low rs ≡ true → c < low → in_sets (ranges rs) c ≡ false
no_range_below low [] c a h = refl
no_range_below low (r ∷ rs) c a h =
    let above = begins_above low r rs a in
    let order = in_order low r rs a in
    or_false _ _ (no_left _ _ (lt-leb r.0 c (omega (arith, above, h))))
    ∙ no_range_below (r.1 + 1) rs c (rest_apart low r rs a) (omega (arith, above, order, h))

-- nor has a gap of these
no_gap_below : (low : ℕ) (rs : List (ℕ × ℕ)) (c : ℕ) → are_apart low rs ≡ true → c < low → in_sets (ranges (gaps low rs)) c ≡ false
no_gap_below low [] c a h = or_false _ _ (no_left _ _ (lt-leb low c h))
no_gap_below low (r ∷ rs) c a h =
    let above = begins_above low r rs a in
    let order = in_order low r rs a in
    or_false _ _ (no_left _ _ (lt-leb low c h)) ∙ no_gap_below (r.1 + 1) rs c (rest_apart low r rs a) (omega (arith, above, order, h))

-- by one range and the gap before it, where the rest is known
module _ (low : ℕ) (r : ℕ × ℕ) (rs : List (ℕ × ℕ)) (c : ℕ) (a : are_apart low (r ∷ rs) ≡ true) (h : low ≤ c)
    (rest : r.1 < c → in_sets (ranges (gaps (r.1 + 1) rs)) c ≡ not (in_sets (ranges rs) c)) where
  -- a character before the range is in a gap exactly where it is in no range
  in_gap : c < r.0 → in_sets (ranges (gaps low (r ∷ rs))) c ≡ not (in_sets (ranges (r ∷ rs)) c)
  in_gap w =
      let order = in_order low r rs a in
      let later : in_sets (ranges rs) c ≡ false = no_range_below (r.1 + 1) rs c (rest_apart low r rs a) (omega (arith, order, w)) in
      or_true _ _ (and_true _ _ (le-leb low c h) (le-leb c (r.0 - 1) (omega (arith, w))))
      ∙ sym (ap not (or_false _ _ (no_left _ _ (lt-leb r.0 c w)) ∙ later))

  -- and so is one in the range
  in_range : r.0 ≤ c → c ≤ r.1 → in_sets (ranges (gaps low (r ∷ rs))) c ≡ not (in_sets (ranges (r ∷ rs)) c)
  in_range w v =
      let above = begins_above low r rs a in
      or_false _ _ (no_right _ _ (lt-leb c (r.0 - 1) (omega (arith, above, w))))
      ∙ no_gap_below (r.1 + 1) rs c (rest_apart low r rs a) (omega (arith, v))
      ∙ sym (ap not (or_true _ _ (and_true _ _ (le-leb r.0 c w) (le-leb c r.1 v))))

  -- and one behind it
  behind : r.0 ≤ c → r.1 < c → in_sets (ranges (gaps low (r ∷ rs))) c ≡ not (in_sets (ranges (r ∷ rs)) c)
  behind w v =
      let above = begins_above low r rs a in
      or_false _ _ (no_right _ _ (lt-leb c (r.0 - 1) (omega (arith, above, w)))) ∙ rest v
      ∙ sym (ap not (or_false _ _ (no_right _ _ (lt-leb c r.1 v))))

  -- and so is each character from the number on
  one_range : in_sets (ranges (gaps low (r ∷ rs))) c ≡ not (in_sets (ranges (r ∷ rs)) c)
  one_range = ⊎_elim in_gap (λ w. ⊎_elim (behind w) (in_range w) (either_side r.1 c)) (either_side c r.0)

-- of the characters from low to the greatest, the gaps have exactly those outside ranges in order
pub complement : (low : ℕ) (rs : List (ℕ × ℕ)) (c : ℕ) → are_apart low rs ≡ true → low ≤ c → c ≤ max_code_point
    → in_sets (ranges (gaps low rs)) c ≡ not (in_sets (ranges rs) c)
complement low [] c a h m = or_true _ _ (and_true _ _ (le-leb low c h) (le-leb c max_code_point m))
complement low (r ∷ rs) c a h m =
    one_range low r rs c a h (λ v. complement (r.1 + 1) rs c (rest_apart low r rs a) (omega (arith, v)) m)
