-- A block of 32 places, each judged by its byte and the two that follow it.
use Rattle.std.proofs.Common.{◌≡◌, ℕ, ◌+◌, ◌%◌, ◌^◌, ◌<◌, ◌≤◌, eqb, cond, Bool, true, false, not, ◌||◌, ◌&&◌, List, [], ◌∷◌, map, length, get_or, replicate}
use Rattle.std.proofs.Common.{bit_and, bit_or, refl, sym, ap, ◌∙◌, subst, arith}
use Rattle.std.specs.Char.{is_ascii_hexdigit}
use Rattle.std.specs.List.{prefix_len}
use Rattle.std.specs.Simd.Lanes.{zip2}
use Rattle.std.proofs.lemmas.Bool.{agree_below_at}
use Rattle.std.proofs.lemmas.List.{ext_get_or, length-map, get_or-map}
use Rattle.std.proofs.lemmas.List.Sums.{prefix_len_passes, prefix_len_stops, prefix_len-le-length}
use Rattle.std.proofs.lemmas.Simd.{map-map, zip2_of_maps, splat_is_map, length-chunk, get_or-chunk}
use lib.Count.{count_trailing_zeros}
use lib.Lanes.{mask_l, top, chunk}
use Rattle.strkw_uri.specs.Lanes.{members, is_in, goes_on, IsRun}
use Rattle.strkw_uri.proofs.Blocks.{first_lane}

-- the code's table of hexadecimal digits
abbrev pub digits : List ℕ
digits = 8 ∷ 88 ∷ 88 ∷ 88 ∷ 88 ∷ 88 ∷ 88 ∷ 8 ∷ 8 ∷ 8 ∷ 0 ∷ 0 ∷ 0 ∷ 0 ∷ 0 ∷ 0 ∷ []

-- of the bytes, those in the table are the hexadecimal digits
digits_are : (c : ℕ) → c < 256 → is_in digits c ≡ is_ascii_hexdigit c
digits_are c l = agree_below_at (is_in digits) is_ascii_hexdigit 256 c refl l

-- a lane's four tests: 255 where the place does not go on
abbrev failure : (a e h k : Bool) → ℕ
failure a e h k = bit_and (cond a 255 0) (bit_or (bit_or (cond (not e) 255 0) (cond h 255 0)) (cond k 255 0))

-- its top bit is clear exactly where a fails, or e holds and neither h nor k does
failure_is : (a e h k : Bool) → not (top 7 (failure a e h k)) ≡ not a || (e && not h && not k)
failure_is true true true true = refl
failure_is true true true false = refl
failure_is true true false true = refl
failure_is true true false false = refl
failure_is true false true true = refl
failure_is true false true false = refl
failure_is true false false true = refl
failure_is true false false false = refl
failure_is false true true true = refl
failure_is false true true false = refl
failure_is false true false true = refl
failure_is false true false false = refl
failure_is false false true true = refl
failure_is false false true false = refl
failure_is false false false true = refl
failure_is false false false false = refl

-- a run over the places from `at` on
run_from : (q : ℕ → Bool) (at r : ℕ) (vs : List ℕ) → length vs ≡ 32 → ((i : ℕ) → i < 32 → get_or vs i 0 ≡ at + i) → r ≡ prefix_len q vs → IsRun q at 32 r
run_from q at r vs long place e = record {
  within = omega (arith, e, long, prefix_len-le-length q vs);
  passed = λ i l. subst (λ k. q k ≡ true) (place i (omega (arith, e, long, prefix_len-le-length q vs))) (prefix_len_passes q vs i 0 (omega (arith, e)));
  stopped = λ l. subst (λ k. q k ≡ false) (ap (λ k. get_or vs k 0) (sym e) ∙ place r l) (prefix_len_stops q vs 0 (omega (arith, e, long)));
}

module _ (table bytes : List ℕ) (at : ℕ) (fit : (k : ℕ) → get_or bytes k 0 < 256) (room : at + 34 ≤ length bytes)
    (vs : List ℕ) (long : length vs ≡ 32) (place : (i : ℕ) → i < 32 → get_or vs i 0 ≡ at + i) where
  -- the byte at a place, or 0 past the end
  abbrev byte_at : ℕ → ℕ
  byte_at i = get_or bytes i 0

  -- the bytes at each place, or at so many past it
  loaded : (from : ℕ) (g : ℕ → ℕ) → from + 32 ≤ length bytes → ((k : ℕ) → from + k ≡ g (at + k)) → chunk from 32 bytes ≡ map (λ i. byte_at (g i)) vs
  loaded from g le past =
      let size : length (chunk from 32 bytes) ≡ length (map (λ i. byte_at (g i)) vs) = length-chunk from 32 bytes le
      ∙ sym (length-map vs (λ i. byte_at (g i)) ∙ long) in
      ext_get_or 0 _ _ size
      (λ i l.
      let small : i < 32 = omega (arith, length-chunk from 32 bytes le) in
      get_or-chunk from 32 bytes i 0 small ∙ ap byte_at (past i) ∙ ap (λ k. byte_at (g k)) (sym (place i small))
      ∙ sym (get_or-map (λ i. byte_at (g i)) vs i 0 0 (omega (arith, long))))

  -- the lanes that hold none of a table
  none_of : (t : List ℕ) (from : ℕ) (g : ℕ → ℕ) (held : List ℕ) → chunk from 32 bytes ≡ map (λ i. byte_at (g i)) vs
      → held ≡ map (members t) (chunk from 32 bytes)
      → zip2 {C = ℕ} (λ a b. cond (eqb a b) 255 0) held (replicate 32 0) ≡ map (λ i. cond (eqb (members t (byte_at (g i))) 0) 255 0) vs
  none_of t from g held load are = zip2_of_maps (λ a b. cond (eqb a b) 255 0) (λ i. members t (byte_at (g i))) (λ _. 0) vs
      (are ∙ ap (map (members t)) load ∙ map-map (members t) (λ i. byte_at (g i)) vs) (splat_is_map vs 32 0 long)

  -- what the four tests make of a place
  abbrev lane : ℕ → ℕ
  lane i = failure (eqb (members table (byte_at i)) 0) (eqb (byte_at i) 37) (eqb (members digits (byte_at (i + 1))) 0)
      (eqb (members digits (byte_at (i + 2))) 0)

  -- its top bit is clear exactly where the text goes on at the place
  lane_is : (i : ℕ) → not (top 7 (lane i)) ≡ goes_on (is_in table) bytes i
  lane_is i = failure_is (eqb (members table (byte_at i)) 0) (eqb (byte_at i) 37) (eqb (members digits (byte_at (i + 1))) 0)
      (eqb (members digits (byte_at (i + 2))) 0)
      ∙ ap (λ b. is_in table (byte_at i) || (eqb (byte_at i) 37 && b && is_in digits (byte_at (i + 2)))) (digits_are (byte_at (i + 1)) (fit (i + 1)))
      ∙ ap (λ b. is_in table (byte_at i) || (eqb (byte_at i) 37 && is_ascii_hexdigit (byte_at (i + 1)) && b)) (digits_are (byte_at (i + 2)) (fit (i + 2)))

  module _ (held high low : List ℕ) (r : ℕ) (here : held ≡ map (members table) (chunk at 32 bytes))
      (one : high ≡ map (members digits) (chunk (at + 1) 32 bytes)) (two : low ≡ map (members digits) (chunk (at + 2) 32 bytes)) where
    -- the 32 lanes, as the code joins its tests
    abbrev lanes : List ℕ
    lanes = zip2 bit_and (zip2 {C = ℕ} (λ a b. cond (eqb a b) 255 0) held (replicate 32 0))
        (zip2 bit_or (zip2 bit_or (zip2 {C = ℕ} (λ a b. cond (not (eqb a b)) 255 0) (chunk at 32 bytes) (replicate 32 37))
        (zip2 {C = ℕ} (λ a b. cond (eqb a b) 255 0) high (replicate 32 0)))
        (zip2 {C = ℕ} (λ a b. cond (eqb a b) 255 0) low (replicate 32 0)))

    -- they are what the four tests make of each place
    lanes_are : lanes ≡ map lane vs
    lanes_are =
        let load = loaded at (λ i. i) (omega arith) (λ k. refl) in
        let load1 = loaded (at + 1) (λ i. i + 1) (omega arith) (λ k. omega arith) in
        let load2 = loaded (at + 2) (λ i. i + 2) (omega arith) (λ k. omega arith) in
        zip2_of_maps bit_and _ _ vs (none_of table at (λ i. i) held load here)
        (zip2_of_maps bit_or _ _ vs
        (zip2_of_maps bit_or _ _ vs (zip2_of_maps (λ a b. cond (not (eqb a b)) 255 0) (λ i. byte_at i) (λ _. 37) vs load (splat_is_map vs 32 37 long))
        (none_of digits (at + 1) (λ i. i + 1) high load1 one))
        (none_of digits (at + 2) (λ i. i + 2) low load2 two))

    -- the lane that the code finds is where the places that go on end
    pub escapes_run : r ≡ cond (eqb (mask_l (map (top 7) lanes) % 2 ^ 64) 0) 32 (count_trailing_zeros 64 (mask_l (map (top 7) lanes) % 2 ^ 64))
        → IsRun (goes_on (is_in table) bytes) at 32 r
    escapes_run found = run_from (goes_on (is_in table) bytes) at r vs long place
        (first_lane (goes_on (is_in table) bytes) lane vs r long (λ i h. lane_is (get_or vs i 0))
        (found ∙ ap (λ z. cond (eqb (mask_l (map (top 7) z) % 2 ^ 64) 0) 32 (count_trailing_zeros 64 (mask_l (map (top 7) z) % 2 ^ 64))) lanes_are))
