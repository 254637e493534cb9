-- From the mask of a block of 32 bytes to the first of them that is not of a class, and from a block to the whole.
use Rattle.std.proofs.Common.{◌≡◌, ℕ, zero, suc, ◌+◌, ◌-◌, ◌/◌, ◌%◌, ◌^◌, ◌<◌, ◌≤◌, eqb, leb, cond, Bool, true, false, not, ◌||◌, ◌&&◌, List, [], ◌∷◌, ◌++◌}
use Rattle.std.proofs.Common.{map, length, get_or, take, drop, replicate, bit_and, w8, inl, inr, ◌*◌, refl, sym, ap, ◌∙◌, subst, arith}
use Rattle.std.proofs.lemmas.Bool.{cases_lt, lt-leb, ne_eqb, or_left}
use Rattle.std.proofs.lemmas.Simd.{map-map, mask_l-mod, first_set_mask_l, zip2_splat, zip2_of_maps, splat_is_map, swz_l, Each1-all, Each1-weaker, Each1-zip2}
use Rattle.std.proofs.lemmas.Simd.{Each2-splat}
use Rattle.std.proofs.lemmas.Nat.{and_mask}
use Rattle.std.proofs.lemmas.List.{length-map, length-take-le, length-drop, get_or-take, get_or-drop, get_or_append_left, get_or-append-add, drop-drop}
use Rattle.std.proofs.lemmas.List.Sums.{prefix_len_passes, prefix_len_stops, prefix_len-le-length}
use Rattle.std.specs.Simd.{first_chunks}
use Rattle.std.specs.Simd.Lanes.{Each1, zip2}
use Rattle.std.specs.List.{prefix_len}
use lib.Count.{count_trailing_zeros}
use lib.Lanes.{mask_l, top}
use Rattle.strkw_uri.specs.Lanes.{members, is_in, upper_bits, is_escape_at, goes_on, IsRun}
use Rattle.std.specs.Char.{is_ascii_hexdigit}

-- tests that agree on each element
pub prefix_len-agree : (p q : ℕ → Bool) (xs : List ℕ) → ((i : ℕ) → i < length xs → p (get_or xs i 0) ≡ q (get_or xs i 0)) → prefix_len p xs ≡ prefix_len q xs
prefix_len-agree p q [] h = refl
prefix_len-agree p q (x ∷ xs) h =
    let rest = prefix_len-agree p q xs (λ i l. h (suc i) (omega arith)) in
    ap (λ b. cond b (1 + prefix_len p xs) 0) (h 0 (omega arith)) ∙ ap (λ n. cond (q x) (1 + n) 0) rest

-- the place of the first lane whose top bit is set is where a test stops that fails at just these lanes
pub first_lane : (q : ℕ → Bool) (f : ℕ → ℕ) (v : List ℕ) (r : ℕ) → length v ≡ 32 → ((i : ℕ) → i < length v → not (top 7 (f (get_or v i 0))) ≡ q (get_or v i 0))
    → r ≡ cond (eqb (mask_l (map (top 7) (map f v)) % 2 ^ 64) 0) 32 (count_trailing_zeros 64 (mask_l (map (top 7) (map f v)) % 2 ^ 64)) → r ≡ prefix_len q v
first_lane q f v r long each found =
    let p : ℕ → Bool = λ x. top 7 (f x) in
    let mask : mask_l (map (top 7) (map f v)) % 2 ^ 64 ≡ mask_l (map p v) = ap (λ l. mask_l l % 2 ^ 64) (map-map (top 7) f v)
    ∙ mask_l-mod (map p v) 64 (omega (arith, length-map v p, long)) in
    found ∙ ap (λ m. cond (eqb m 0) 32 (count_trailing_zeros 64 m)) mask ∙ first_set_mask_l p v 32 long (omega arith)
    ∙ prefix_len-agree (λ x. not (p x)) q v each

-- what the two look-ups leave of a byte
abbrev both : List ℕ → ℕ → ℕ
both table x = bit_and (get_or table (bit_and x 15) 0) (get_or upper_bits (x / 2 ^ 4) 0)

-- it is what the table holds of the byte
both_is : (table : List ℕ) (x : ℕ) → both table x ≡ members table x
both_is table x = ap (λ k. bit_and (get_or table k 0) (get_or upper_bits (x / 16) 0)) (and_mask x 4)

-- functions that agree make the same of each list
pub map-agree : (f g : ℕ → ℕ) → ((x : ℕ) → f x ≡ g x) → (v : List ℕ) → map f v ≡ map g v
map-agree f g h [] = refl
map-agree f g h (x ∷ v) = ap (λ y. y ∷ map f v) (h x) ∙ ap (λ w. g x ∷ w) (map-agree f g h v)

-- both look-ups of 32 bytes, joined by and, are what the table holds of each
pub look_ups : (table v lower upper : List ℕ) → length v ≡ 32
    → lower ≡ map (λ p. get_or table p 0) (zip2 bit_and v (replicate 32 15))
    → upper ≡ map (λ p. get_or upper_bits p 0) (zip2 (λ a b. a / 2 ^ b) v (replicate 32 4))
    → zip2 bit_and lower upper ≡ map (members table) v
look_ups table v lower upper long low high =
    let l : lower ≡ map (λ x. get_or table (bit_and x 15) 0) v = low ∙ ap (map (λ p. get_or table p 0)) (zip2_splat bit_and v 32 15 long)
    ∙ map-map (λ p. get_or table p 0) (λ x. bit_and x 15) v in
    let u : upper ≡ map (λ x. get_or upper_bits (x / 2 ^ 4) 0) v = high ∙ ap (map (λ p. get_or upper_bits p 0)) (zip2_splat (λ a b. a / 2 ^ b) v 32 4 long)
    ∙ map-map (λ p. get_or upper_bits p 0) (λ x. x / 2 ^ 4) v in
    zip2_of_maps bit_and (λ x. get_or table (bit_and x 15) 0) (λ x. get_or upper_bits (x / 2 ^ 4) 0) v l u
    ∙ map-agree (both table) (members table) (both_is table) v

-- 255 where the byte is not of the class
abbrev failure : List ℕ → ℕ → ℕ
failure table x = cond (eqb (members table x) 0) 255 0

-- its top bit is clear exactly where the byte is of the class
failure_is : (table : List ℕ) (x : ℕ) → not (top 7 (failure table x)) ≡ is_in table x
failure_is table x = by_test (eqb (members table x) 0)
  where
    by_test : (b : Bool) → not (top 7 (cond b 255 0)) ≡ not b
    by_test true = refl
    by_test false = refl

-- the run of a block
-- the lane that the code finds is how many bytes from the front are of the table
pub block_run : (table v held : List ℕ) (r : ℕ) → length v ≡ 32 → held ≡ map (members table) v
    → r ≡ cond (eqb (mask_l (map (top 7) (zip2 (λ a b. cond (eqb a b) 255 0) held (replicate 32 0))) % 2 ^ 64) 0) 32
    (count_trailing_zeros 64 (mask_l (map (top 7) (zip2 (λ a b. cond (eqb a b) 255 0) held (replicate 32 0))) % 2 ^ 64))
    → r ≡ prefix_len (is_in table) v
block_run table v held r long are found =
    let z : zip2 (λ a b. cond (eqb a b) 255 0) held (replicate 32 0) ≡ map (failure table) v
    = zip2_of_maps (λ a b. cond (eqb a b) 255 0) (members table) (λ _. 0) v are (splat_is_map v 32 0 long) in
    first_lane (is_in table) (failure table) v r long (λ i h. failure_is table (get_or v i 0))
    (found ∙ ap (λ z. cond (eqb (mask_l (map (top 7) z) % 2 ^ 64) 0) 32 (count_trailing_zeros 64 (mask_l (map (top 7) z) % 2 ^ 64))) z)

-- a table of 16 entries that stands twice in 32 lanes
pub twice_at : (table : List ℕ) → length table ≡ 16 → (k : ℕ) → k < 32 → get_or (table ++ table) k 0 ≡ get_or table (k % 16) 0
twice_at table long k l = elim (cases_lt k 16) [
  | inl a ↦
      let e : k ≡ k % 16 = omega arith in
      get_or_append_left table table 0 k (omega (arith, long)) ∙ ap (λ j. get_or table j 0) e
  | inr b ↦
      let e : k ≡ length table + (k - 16) = omega (arith, long) in
      let f : k - 16 ≡ k % 16 = omega arith in
      ap (λ j. get_or (table ++ table) j 0) e ∙ get_or-append-add table table (k - 16) 0 ∙ ap (λ j. get_or table j 0) f
]

-- and a look-up of it
pub look_up_is : (table twice places : List ℕ) (i : ℕ) → ((k : ℕ) → k < 32 → get_or twice k 0 ≡ get_or table (k % 16) 0) → i + length places ≤ 32
    → Each1 (λ p. p < 16) places
    → swz_l w8 16 twice i places ≡ map (λ p. get_or table p 0) places
look_up_is table twice [] i t h e = refl
look_up_is table twice (p ∷ places) i t h e =
    let small : leb 128 p ≡ false = lt-leb 128 p (omega arith) in
    let place : (16 * (i / 16) + p) % 16 ≡ p = omega arith in
    let entry : get_or twice (16 * (i / 16) + p) 0 ≡ get_or table p 0 = t (16 * (i / 16) + p) (omega arith) ∙ ap (λ k. get_or table k 0) place in
    ap (λ b. cond b 0 (get_or twice (16 * (i / 16) + p) 0) ∷ swz_l w8 16 twice (suc i) places) small ∙ ap (λ x. x ∷ swz_l w8 16 twice (suc i) places) entry
    ∙ ap (λ xs. get_or table p 0 ∷ xs) (look_up_is table twice places (suc i) t (omega arith) e.1)

-- the lower halves of lanes are below 16
pub lower_places : (v : List ℕ) → Each1 (λ p. p < 16) (zip2 bit_and v (replicate 32 15))
lower_places v = Each1-zip2 bit_and (λ p. p < 16) v (replicate 32 15)
    (Each2-splat (λ a b. bit_and a b < 16) v 32 15 (Each1-all (λ x. bit_and x 15 < 16) (λ x. omega (arith, and_mask x 4)) v))

-- and so are the upper halves of lanes below 256
pub upper_places : (v : List ℕ) → Each1 (λ x. x < 256) v → Each1 (λ p. p < 16) (zip2 (λ a b. a / 2 ^ b) v (replicate 32 4))
upper_places v fits = Each1-zip2 (λ a b. a / 2 ^ b) (λ p. p < 16) v (replicate 32 4)
    (Each2-splat (λ a b. a / 2 ^ b < 16) v 32 4 (Each1-weaker (λ x. x < 256) (λ x. x / 2 ^ 4 < 16) (λ x l. omega arith) v fits))

-- a chunk is the part at its place
pub chunk_at : (n k : ℕ) (xs : List ℕ) (i : ℕ) (d : List ℕ) → i < k → get_or (first_chunks n k xs) i d ≡ take n (drop (i * n) xs)
chunk_at n zero xs i d lt = absurd (omega arith)
chunk_at n (suc k) xs zero d lt = let z : 0 ≡ 0 * n = omega arith in ap (λ j. take n (drop j xs)) z
chunk_at n (suc k) xs (suc i) d lt =
    let e : n + i * n ≡ suc i * n = omega arith in
    chunk_at n k (drop n xs) i d (omega arith) ∙ ap (take n) (drop-drop (i * n) n xs) ∙ ap (λ j. take n (drop j xs)) e

-- a chunk's bytes in the whole
module _ (q : ℕ → Bool) (xs : List ℕ) (bs : List (List ℕ)) (at i r : ℕ) (d : List ℕ)
    (blocks : bs ≡ first_chunks 32 (length xs / 32) xs) (inside : i < length xs / 32) (place : at ≡ i * 32) (run : r ≡ prefix_len q (get_or bs i d)) where
  -- the 32 bytes from the block's place on
  abbrev block : List ℕ
  block = take 32 (drop at xs)

  -- the run of the chunk is the run of these bytes
  run_is : r ≡ prefix_len q block
  run_is = run ∙ ap (λ cs. prefix_len q (get_or cs i d)) blocks ∙ ap (prefix_len q) (chunk_at 32 (length xs / 32) xs i d inside)
      ∙ ap (λ j. prefix_len q (take 32 (drop j xs))) (sym place)

  -- at least 32 bytes stand from the block's place on
  room : 32 ≤ length (drop at xs)
  room = omega (arith, length-drop at xs)

  -- so the block is of 32 bytes
  long : length block ≡ 32
  long = length-take-le 32 (drop at xs) room

  -- a byte of the block is that of the text, as far behind the block's place
  byte_at : (k : ℕ) → k < 32 → get_or block k 0 ≡ get_or xs (at + k) 0
  byte_at k l = get_or-take 32 (drop at xs) k 0 l ∙ get_or-drop at xs k 0

  -- the run is at most 32 bytes long
  within : r ≤ 32
  within = omega (arith, run_is, long, prefix_len-le-length q block)

  -- at each place of the run the text goes on
  passes : (k : ℕ) → k < r → goes_on q xs (at + k) ≡ true
  passes k l = or_left (q (get_or xs (at + k) 0)) (is_escape_at xs (at + k))
      (subst (λ x. q x ≡ true) (byte_at k (omega (arith, within))) (prefix_len_passes q block k 0 (omega (arith, run_is))))

  -- where no escape can begin, the text ends
  -- where no percent sign stands at its end, the run is that of the places that go on
  pub block_stops : (r < 32 → get_or xs (at + r) 0 ≡ 37 → ⊥) → IsRun (goes_on q xs) at 32 r
  block_stops other = record {
    within = within;
    passed = passes;
    stopped = λ l.
        let out : q (get_or xs (at + r) 0) ≡ false
        = ap q (sym (byte_at r l) ∙ ap (λ k. get_or block k 0) run_is) ∙ prefix_len_stops q block 0 (omega (arith, run_is, long)) in
        ap (λ b. b || is_escape_at xs (at + r)) out
        ∙ ap (λ b. b && is_ascii_hexdigit (get_or xs (at + r + 1) 0) && is_ascii_hexdigit (get_or xs (at + r + 2) 0))
        (ne_eqb (get_or xs (at + r) 0) 37 (other l));
  }

-- a run at a place that all before it reaches
pub join : (q : ℕ → Bool) (at n m r : ℕ) → at + m ≤ n → ((k : ℕ) → k < at → q k ≡ true) → IsRun q at m r → (at + r < n → r < m) → IsRun q 0 n (at + r)
join q at n m r le before run reach = record {
  within = omega (arith, run.within);
  passed = λ i l. elim (cases_lt i at) [
    | inl front ↦ (let e : i ≡ 0 + i = omega arith in subst (λ k. q k ≡ true) e (before i front))
    | inr back ↦
        let there : at + (i - at) ≡ 0 + i = omega arith in
        subst (λ k. q k ≡ true) there (run.passed (i - at) (omega arith))
  ];
  stopped = λ l. let e : at + r ≡ 0 + (at + r) = omega arith in subst (λ k. q k ≡ false) e (run.stopped (reach l));
}

-- all pass up to the end of a block that passes whole
pub join_whole : (q : ℕ → Bool) (at r : ℕ) → ((k : ℕ) → k < at → q k ≡ true) → IsRun q at 32 r → 32 ≤ r → (k : ℕ) → k < at + 32 → q k ≡ true
join_whole q at r before run whole k l = elim (cases_lt k at) [
  | inl front ↦ before k front
  | inr back ↦
      let there : at + (k - at) ≡ k = omega arith in
      subst (λ k. q k ≡ true) there (run.passed (k - at) (omega arith))
]

-- a run by one test is a run by another that agrees with it
pub run_agree : (p q : ℕ → Bool) (at n r : ℕ) → ((i : ℕ) → p i ≡ q i) → IsRun p at n r → IsRun q at n r
run_agree p q at n r same run = record {
  within = run.within;
  passed = λ i l. sym (same (at + i)) ∙ run.passed i l;
  stopped = λ l. sym (same (at + r))
      ∙ run.stopped l;
}

-- tests of bytes that agree make tests of places that agree
pub goes_on-agree : (p q : ℕ → Bool) (bs : List ℕ) → ((k : ℕ) → get_or bs k 0 < 256) → ((c : ℕ) → c < 256 → p c ≡ q c) → (i : ℕ)
    → goes_on p bs i ≡ goes_on q bs i
goes_on-agree p q bs fit same i = ap (λ b. b || is_escape_at bs i) (same (get_or bs i 0) (fit i))
