-- Runs of bytes at the front of a text, by blocks.
use Rattle.std.proofs.Common.{◌≡◌, ◌≤◌, ◌<◌, ◌+◌, ◌-◌, ◌^◌, ◌%◌, inl, inr, ℕ, zero, suc, List, []}
use Rattle.std.proofs.Common.{◌∷◌, Bool, true, false, not, cond, eqb, leb, w8, ◌||◌, map, replicate, take, drop, length}
use Rattle.std.proofs.Common.{refl, sym, ap, subst, arith, ◌∙◌, get_or, bit_or, Option, Some, None}
use Rattle.std.specs.Prelude.{◌==◌, is_some, unwrap_or}
use Rattle.std.specs.Bool.{MatchBool}
use Rattle.std.specs.List.{prefix_len}
use Rattle.std.specs.Str.{IsAscii, IsNotAscii}
use Rattle.std.specs.Simd.Lanes.{mask_l, zip2}
use Rattle.std.proofs.lemmas.Bool.{cases_lt, leb-false, leb-true}
use Rattle.std.proofs.lemmas.List.{get_or_past, length-map, take_all, take_rest}
use Rattle.std.proofs.lemmas.Simd.{tops_compared, zip2_splat_left, first_set_mask_l, map-map, mask_l-mod}
use Rattle.std.proofs.lemmas.Simd.{run_in_chunk_fails, run_in_chunk_le, run_in_chunk_stops, zip2_of_maps, zip2_splat}
use Rattle.memchr.specs.Find.{IsFirstByte, is_byte2, is_byte3}
use Rattle.std.specs.List.{AllByRecursion}
use Rattle.neldrafi_csv.specs.Grammar.{IsText, IsUnended, ends_field, ends_text, is_line_byte}
use Rattle.neldrafi_csv.specs.Lines.{HasNoLineByte}
use Rattle.neldrafi_csv.proofs.LineLemmas.{has_no_line_byte-at}
use lib.Count.{count_trailing_zeros}
use lib.Lanes.{top}

-- all bits of a lane are set where its test holds
abbrev marked : Bool → ℕ
marked holds = cond holds 255 0

-- the lanes of the bytes that are one of three
abbrev lanes_of : ℕ → List ℕ → List ℕ
lanes_of byte block = zip2 bit_or (zip2 (λ a b. marked (eqb a b)) block (replicate 16 34))
    (zip2 bit_or (zip2 (λ a b. marked (eqb a b)) block (replicate 16 byte))
    (zip2 bit_or (zip2 (λ a b. marked (eqb a b)) block (replicate 16 13)) (zip2 (λ a b. marked (eqb a b)) block (replicate 16 10))))

-- what the lane of one byte holds
abbrev lane_of : ℕ → ℕ → ℕ
lane_of byte b = bit_or (marked (eqb b 34)) (bit_or (marked (eqb b byte)) (bit_or (marked (eqb b 13)) (marked (eqb b 10))))

-- the top bit of four lanes joined is set exactly if one of their tests holds
either_marked : (o p q r : Bool) → top 7 (bit_or (marked o) (bit_or (marked p) (bit_or (marked q) (marked r)))) ≡ (o || (p || (q || r)))
either_marked true true true true = refl
either_marked true true true false = refl
either_marked true true false true = refl
either_marked true true false false = refl
either_marked true false true true = refl
either_marked true false true false = refl
either_marked true false false true = refl
either_marked true false false false = refl
either_marked false true true true = refl
either_marked false true true false = refl
either_marked false true false true = refl
either_marked false true false false = refl
either_marked false false true true = refl
either_marked false false true false = refl
either_marked false false false true = refl
either_marked false false false false = refl

-- so the top bits are set exactly for the bytes that are `byte` or a part of a line end
tops_are_ends : (byte : ℕ) (block : List ℕ) → map (λ b. top 7 (lane_of byte b)) block ≡ map (ends_text byte) block
tops_are_ends byte [] = refl
tops_are_ends byte (b ∷ block) = rw (either_marked (eqb b 34) (eqb b byte) (eqb b 13) (eqb b 10), tops_are_ends byte block) refl

-- the run of a block
-- what the lanes of 16 bytes count is how many of them stand before the first of the three
pub run_of_lanes : (byte : ℕ) (block : List ℕ) (r : ℕ) → length block ≡ 16
    → r ≡ cond (eqb (mask_l (map (top 7) (lanes_of byte block)) % 2 ^ 64) 0) 16 (count_trailing_zeros 64 (mask_l (map (top 7) (lanes_of byte block)) % 2 ^ 64))
    → r ≡ prefix_len (λ c. not (ends_text byte c)) block
run_of_lanes byte block r size found =
    let same = zip2_splat (λ a b. marked (eqb a b)) block 16 byte size in
    let returns = zip2_splat (λ a b. marked (eqb a b)) block 16 13 size in
    let feeds = zip2_splat (λ a b. marked (eqb a b)) block 16 10 size in
    let quotes = zip2_splat (λ a b. marked (eqb a b)) block 16 34 size in
    let ends = zip2_of_maps bit_or (λ b. marked (eqb b 13)) (λ b. marked (eqb b 10)) block returns feeds in
    let fields = zip2_of_maps bit_or (λ b. marked (eqb b byte)) (λ b. bit_or (marked (eqb b 13)) (marked (eqb b 10))) block same ends in
    let lanes : lanes_of byte block ≡ map (lane_of byte) block =
    zip2_of_maps bit_or (λ b. marked (eqb b 34)) (λ b. bit_or (marked (eqb b byte)) (bit_or (marked (eqb b 13)) (marked (eqb b 10)))) block quotes fields in
    let tops : map (top 7) (lanes_of byte block) ≡ map (ends_text byte) block = ap (map (top 7)) lanes ∙ map-map (top 7) (lane_of byte) block
    ∙ tops_are_ends byte block in
    let mask : mask_l (map (top 7) (lanes_of byte block)) % 2 ^ 64 ≡ mask_l (map (ends_text byte) block) =
    ap (λ l. mask_l l % 2 ^ 64) tops ∙ mask_l-mod (map (ends_text byte) block) 64 (omega (arith, length-map block (ends_text byte), size)) in
    found ∙ ap (λ m. cond (eqb m 0) 16 (count_trailing_zeros 64 m)) mask ∙ first_set_mask_l (ends_text byte) block 16 size (omega arith)

-- so many bytes of the block at a place fail a test, and the one behind them, if there is one, passes it
abbrev pub IsRunAt : (ℕ → Bool) → List ℕ → ℕ → ℕ → Type 0
IsRunAt test xs at n = n ≡ prefix_len (λ c. not (test c)) (take 16 (take (length xs - at) (drop at xs)))

module _ (test : ℕ → Bool) (xs : List ℕ) (at n : ℕ) (inside : at + 16 ≤ length xs) (run : IsRunAt test xs at n) where
  -- the block at a place is the front of what is left there
  of_rest : n ≡ prefix_len (λ c. not (test c)) (take 16 (drop at xs))
  of_rest = run ∙ ap (λ l. prefix_len (λ c. not (test c)) (take 16 l)) (take_rest xs at)

  -- a run is no longer than its block
  pub run-within : n ≤ 16
  run-within = run_in_chunk_le test xs at 16 n 0 inside of_rest

  -- the bytes of the block before the end of its run fail the test
  pub run-before : (k : ℕ) → at ≤ k → k < at + n → test (get_or xs k 0) ≡ false
  run-before k low high = run_in_chunk_fails test xs at 16 n 0 inside of_rest k low high

  -- and where its run ends before it does, a byte that passes it stands there
  pub run-stops : n < 16 → test (get_or xs (at + n) 0) ≡ true
  run-stops short = run_in_chunk_stops test xs at 16 n 0 inside of_rest short

  -- where all before a block fail the test, so do all as far as its run goes
  pub run-more : ((k : ℕ) → k < at → test (get_or xs k 0) ≡ false) → (k : ℕ) → k < at + n → test (get_or xs k 0) ≡ false
  run-more before k high = elim (cases_lt k at) [
    | inl low ↦ before k low
    | inr above ↦ run-before k above high
  ]

-- a truth value that is not true is false
not-true : (b : Bool) → ¬ (b ≡ true) → b ≡ false
not-true true h = absurd (h refl)
not-true false h = refl

-- of three truth values it is no matter which two are joined first
regroup : (p q r : Bool) → (p || (q || r)) ≡ ((p || q) || r)
regroup true q r = refl
regroup false q r = refl

-- the test for a byte that ends a field is that for one of three bytes
ends_field-three : (byte c : ℕ) → ends_field byte c ≡ is_byte3 byte 13 10 c
ends_field-three byte c = regroup (c == byte) (c == 13) (c == 10)

-- bytes of which each fails a test
all-below : (test : ℕ → Bool) (xs : List ℕ) (n : ℕ) → n ≤ length xs → ((k : ℕ) → k < n → test (get_or xs k 0) ≡ false)
    → AllByRecursion (λ c. test c ≡ false) (take n xs)
all-below test xs zero l h = tt
all-below test [] (suc n) l h = tt
all-below test (x ∷ xs) (suc n) l h = (h 0 (omega arith), all-below test xs n (omega arith) (λ k a. h (suc k) (omega arith)))

-- so the bytes before the first that is no text are text
pub text-below : (byte : ℕ) (xs : List ℕ) (n : ℕ) → n ≤ length xs → ((k : ℕ) → k < n → ends_text byte (get_or xs k 0) ≡ false) → IsText byte (take n xs)
text-below byte xs n l h = all-below (ends_text byte) xs n l h

-- the bytes before the first of three end no field
pub found-unended : (byte : ℕ) (xs : List ℕ) (found : Option ℕ) (n : ℕ) → IsFirstByte (is_byte3 byte 13 10) xs found → n ≡ unwrap_or found (length xs)
    → IsUnended byte (take n xs)
found-unended byte xs None n h e =
    all-below (ends_field byte) xs n (omega (arith, e)) (λ k a. ends_field-three byte _ ∙ not-true _ (h k (omega arith) (omega (arith, e, a))))
found-unended byte xs (Some at) n h e =
    let inside = h.0.high in
    all-below (ends_field byte) xs n (omega (arith, e, inside)) (λ k a. ends_field-three byte _ ∙ not-true _ (h.0.before k (omega arith) (omega (arith, e, a))))

-- and if the search stops before the end, it stops at one of them
pub found-stops : (byte : ℕ) (xs : List ℕ) (found : Option ℕ) (n : ℕ) → IsFirstByte (is_byte3 byte 13 10) xs found → n ≡ unwrap_or found (length xs)
    → n < length xs → ends_field byte (get_or xs n 0) ≡ true
found-stops byte xs None n h e a = absurd (omega (arith, e, a))
found-stops byte xs (Some at) n h e a = ends_field-three byte _ ∙ rw e h.1

-- before the first part of a line end there is none
-- so many bytes have no part of a line end, where each of them is none
line_free-below : (xs : List ℕ) (n : ℕ) → n ≤ length xs → ((k : ℕ) → k < n → is_line_byte (get_or xs k 0) ≡ false) → HasNoLineByte (take n xs)
line_free-below xs n l h = all-below is_line_byte xs n l h

-- so the bytes before the first CR or LF have none, or all where there is neither
pub found-line_free : (xs : List ℕ) (found : Option ℕ) (n : ℕ) → IsFirstByte (is_byte2 13 10) xs found → n ≡ unwrap_or found (length xs)
    → HasNoLineByte (take n xs)
found-line_free xs None n h e = line_free-below xs n (omega (arith, e)) (λ k a. not-true _ (h k (omega arith) (omega (arith, e, a))))
found-line_free xs (Some at) n h e =
    let inside = h.0.high in line_free-below xs n (omega (arith, e, inside)) (λ k a. not-true _ (h.0.before k (omega arith) (omega (arith, e, a))))

-- and no byte is one exactly where a search for CR and LF finds none
pub found-free : (xs : List ℕ) (found : Option ℕ) (free : Bool) → IsFirstByte (is_byte2 13 10) xs found → is_some found ≡ not free
    → (free ≡ true → HasNoLineByte xs) × (HasNoLineByte xs → free ≡ true)
found-free xs None true h e = (
  (λ yes. subst (λ (l : List ℕ). HasNoLineByte l) (take_all (length xs) xs (omega arith))
      (line_free-below xs (length xs) (omega arith) (λ k a. not-true _ (h k (omega arith) a)))),
  (λ none. refl),
)
found-free xs None false h e = let no = e in cc no
found-free xs (Some at) true h e = let no = e in cc no
found-free xs (Some at) false h e = (
  (λ yes. let no = yes in cc no),
  (λ none. let no = sym h.1 ∙ has_no_line_byte-at xs at none h.0.high in cc no),
)
