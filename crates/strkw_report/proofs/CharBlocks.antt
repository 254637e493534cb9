-- Bytes that begin a character, block by block: each lane of a block is judged by itself, and the marks are counted.
use Rattle.std.proofs.Common.{◌≡◌, ℕ, zero, suc, ◌+◌, ◌^◌, ◌%◌, ◌<◌, Bool, true, false, cond, ltb, leb, ◌||◌, List, [], ◌∷◌, map, length, get_or, take, drop}
use Rattle.std.proofs.Common.{take-add, ◌*◌, replicate, bit_or, refl, sym, ap, ◌∙◌, arith}
use Rattle.std.specs.List.{count_by}
use Rattle.std.specs.Fmt.{is_char_start}
use Rattle.std.specs.Simd.{first_chunks}
use Rattle.std.specs.Simd.Lanes.{zip2, mask_l}
use Rattle.std.proofs.lemmas.List.{drop-drop, length-map}
use Rattle.std.proofs.lemmas.List.Sums.{sum_by-append}
use Rattle.std.proofs.lemmas.Simd.{map-map, mask_l-mod, ones-mask_l, zip2_splat, zip2_splat_left, zip2_of_maps}
use lib.Lanes.{top}
use lib.Count.{ones}

-- all bits of a lane are set where its test holds
abbrev marked : Bool → ℕ
marked holds = cond holds 255 0

-- the lanes of `bytes < 0x80` or `0xC0 <= bytes`
abbrev lanes_of : List ℕ → List ℕ
lanes_of block = zip2 bit_or (zip2 (λ a b. marked (ltb a b)) block (replicate 32 128)) (zip2 (λ a b. marked (leb a b)) (replicate 32 192) block)

-- what the lane of one byte holds
abbrev lane_of : ℕ → ℕ
lane_of b = bit_or (marked (ltb b 128)) (marked (leb 192 b))

-- the top bit of two marks joined is set exactly where one of their tests, or both, holds
either_marked : (p q : Bool) → top 7 (bit_or (marked p) (marked q)) ≡ (p || q)
either_marked true true = refl
either_marked true false = refl
either_marked false true = refl
either_marked false false = refl

-- the top bits of the lanes of bytes tell which of them begin a character
tops_are_starts : (block : List ℕ) → map (λ b. top 7 (lane_of b)) block ≡ map is_char_start block
tops_are_starts [] = refl
tops_are_starts (b ∷ block) = rw (either_marked (ltb b 128) (leb 192 b), tops_are_starts block) refl

-- the marks of a block of 32 bytes are as many as the characters that begin in it
pub starts_of_lanes : (block : List ℕ) → length block ≡ 32 → ones (mask_l (map (top 7) (lanes_of block)) % 2 ^ 64) ≡ count_by is_char_start block
starts_of_lanes block size =
    let below = zip2_splat (λ a b. marked (ltb a b)) block 32 128 size in
    let above = zip2_splat_left (λ a b. marked (leb a b)) 192 32 block size in
    let lanes : lanes_of block ≡ map lane_of block = zip2_of_maps bit_or (λ b. marked (ltb b 128)) (λ b. marked (leb 192 b)) block below above in
    let tops : map (top 7) (lanes_of block) ≡ map is_char_start block = ap (map (top 7)) lanes ∙ map-map (top 7) lane_of block ∙ tops_are_starts block in
    ap (λ l. ones (mask_l l % 2 ^ 64)) tops
    ∙ ap ones (mask_l-mod (map is_char_start block) 64 (omega (arith, length-map block is_char_start, size)))
    ∙ ones-mask_l is_char_start block

-- the block at an index is what stands there in the bytes
block_at : (count : ℕ) (bytes : List ℕ) (i : ℕ) (none : List ℕ) → i < count → get_or (first_chunks 32 count bytes) i none ≡ take 32 (drop (i * 32) bytes)
block_at zero bytes i none below = absurd (omega arith)
block_at (suc count) bytes zero none below = refl
block_at (suc count) bytes (suc i) none below =
    block_at count (drop 32 bytes) i none (omega arith) ∙ ap (take 32) (drop-drop (i * 32) 32 bytes)
    ∙ ap (λ place. take 32 (drop place bytes)) (let next : 32 + i * 32 ≡ suc i * 32 = omega arith in next)

-- the blocks before an index, and the one at it, in which `here` characters begin
pub starts_with_block : (bytes : List ℕ) (blocks : List (List ℕ)) (count i here : ℕ) (none : List ℕ) → blocks ≡ first_chunks 32 count bytes → i < count
    → here ≡ count_by is_char_start (get_or blocks i none) → count_by is_char_start (take ((i + 1) * 32) bytes)
    ≡ count_by is_char_start (take (i * 32) bytes) + here
starts_with_block bytes blocks count i here none cut below counted =
    let block : get_or blocks i none ≡ take 32 (drop (i * 32) bytes) = ap (λ all. get_or all i none) cut ∙ block_at count bytes i none below in
    let place : (i + 1) * 32 ≡ i * 32 + 32 = omega arith in
    ap (λ n. count_by is_char_start (take n bytes)) place
    ∙ ap (count_by is_char_start) (take-add (i * 32) 32 bytes)
    ∙ sum_by-append (λ b. cond (is_char_start b) 1 0) (take (i * 32) bytes) (take 32 (drop (i * 32) bytes))
    ∙ ap (λ n. count_by is_char_start (take (i * 32) bytes) + n) (sym (counted ∙ ap (count_by is_char_start) block))
