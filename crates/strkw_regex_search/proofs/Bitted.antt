-- Bits of words: what is put, and what is read.
use Rattle.std.proofs.Common.{◌≡◌, ℕ, zero, suc, ◌+◌, ◌*◌, ◌-◌, ◌/◌, ◌%◌, ◌^◌, ◌<◌, ◌≤◌, ◌==◌, Bool, true, false, List, [], ◌∷◌, ◌++◌, length, get_or}
use Rattle.std.proofs.Common.{refl, sym, ap, ◌∙◌, append-nil, length-append, pow-add, pow_pos, pow_mono, arith, if◌then◌else◌, nat_le}
use Rattle.std.proofs.lemmas.List.{append_assoc, get_or_past, get_or_append_left, get_or-append_right}
use Rattle.std.proofs.lemmas.Nat.{div-add-mod', mod_below, shr_high, shl_whole}
use Rattle.std.proofs.lemmas.Bool.{leb-true, leb-false}
use Rattle.std.proofs.Math.Nat.{pow-suc, mul_assoc, mul_comm, div-eq_of_lt}
use Rattle.strkw_regex_search.specs.machine.Bits.{bit, bits_in, bits_of_words}

-- the number of a bit
abbrev pub digit : Bool → ℕ
digit b = if b then 1 else 0

-- what is put above some bits is their next
pub top_bit : (b : Bool) (k low : ℕ) → low < 2 ^ k → bit (digit b * 2 ^ k + low) k ≡ b
top_bit true k low h = ap (λ (n : ℕ). n % 2 == 1) (shr_high 1 k low h)
top_bit false k low h = ap (λ (n : ℕ). n % 2 == 1) (shr_high 0 k low h)

-- a multiple of two more has the same rest
same_rest : (y z : ℕ) → (2 * y + z) % 2 ≡ z % 2
same_rest y z = omega arith

-- factors in another order
regrouped : (a x y : ℕ) → a * (x * (y * 2)) ≡ 2 * (a * y) * x
regrouped a x y =
    ap (λ (n : ℕ). a * n) (mul_comm x (y * 2)) ∙ sym (mul_assoc a (y * 2) x)
    ∙ ap (λ (n : ℕ). n * x) (sym (mul_assoc a y 2) ∙ mul_comm (a * y) 2)

-- and changes none of those below
low_bit : (a i d low : ℕ) → bit (a * 2 ^ (i + suc d) + low) i ≡ bit low i
low_bit a i d low =
    let above : a * 2 ^ (i + suc d) ≡ 2 * (a * 2 ^ d) * 2 ^ i =
    ap (λ (n : ℕ). a * n) (pow-add 2 i (suc d) ∙ ap (λ (n : ℕ). 2 ^ i * n) (pow-suc 2 d)) ∙ regrouped a (2 ^ i) (2 ^ d) in
    let split : a * 2 ^ (i + suc d) + low ≡ (2 * (a * 2 ^ d) + low / 2 ^ i) * 2 ^ i + low % 2 ^ i =
    ap (λ (n : ℕ). n + low) above ∙ ap (λ (n : ℕ). 2 * (a * 2 ^ d) * 2 ^ i + n) (sym (div-add-mod' low (2 ^ i))) ∙ grind arith in
    ap (λ (n : ℕ). (n / 2 ^ i) % 2 == 1) split
    ∙ ap (λ (n : ℕ). n % 2 == 1) (shr_high (2 * (a * 2 ^ d) + low / 2 ^ i) i (low % 2 ^ i) (mod_below low (2 ^ i) (pow_pos i)))
    ∙ ap (λ (n : ℕ). n == 1) (same_rest (a * 2 ^ d) (low / 2 ^ i))

-- so the bits below it stay
low_bits : (b : Bool) (k low n : ℕ) → n ≤ k → bits_in (digit b * 2 ^ k + low) n ≡ bits_in low n
unfolding bits_in
low_bits b k low zero h = refl
low_bits b k low (suc n) h =
    let far : n + suc (k - suc n) ≡ k = omega (arith, h) in
    ap (λ (bs : List Bool). bs ++ (bit (digit b * 2 ^ k + low) n ∷ [])) (low_bits b k low n (omega (arith, h)))
    ∙ ap (λ (m : ℕ). bits_in low n ++ (bit (digit b * 2 ^ m + low) n ∷ [])) (sym far)
    ∙ ap (λ (x : Bool). bits_in low n ++ (x ∷ [])) (low_bit (digit b) n (k - suc n) low)

-- a bit is raised to its place
pub bit_raised : (b : Bool) (k : ℕ) → k < 64 → (digit b * 2 ^ k) % 2 ^ 64 ≡ digit b * 2 ^ k
bit_raised true k h = shl_whole 1 1 k 64 (omega arith) (omega (arith, h))
bit_raised false k h = shl_whole 0 1 k 64 (omega arith) (omega (arith, h))

-- and put above the others keeps within one bit more
pub bit_within : (b : Bool) (k low : ℕ) → low < 2 ^ k → digit b * 2 ^ k + low < 2 ^ (k + 1)
bit_within true k low h = omega (arith, h, pow-add 2 k 1)
bit_within false k low h = omega (arith, h, pow-add 2 k 1)

-- one bit more
pub bit_put : (b : Bool) (k low : ℕ) → low < 2 ^ k → bits_in (digit b * 2 ^ k + low) (suc k) ≡ bits_in low k ++ (b ∷ [])
unfolding bits_in
bit_put b k low h =
    ap (λ (bs : List Bool). bs ++ (bit (digit b * 2 ^ k + low) k ∷ [])) (low_bits b k low k (omega arith))
    ∙ ap (λ (x : Bool). bits_in low k ++ (x ∷ [])) (top_bit b k low h)

-- words one behind another
pub words_append : (ws : List ℕ) (w : ℕ) → bits_of_words (ws ++ (w ∷ [])) ≡ bits_of_words ws ++ bits_in w 64
words_append [] w = append-nil (bits_in w 64)
words_append (x ∷ ws) w =
    ap (λ (bs : List Bool). bits_in x 64 ++ bs) (words_append ws w) ∙ sym (append_assoc (bits_in x 64) (bits_of_words ws) (bits_in w 64))

-- no bits are none
none_in : bits_in 0 0 ≡ []
unfolding bits_in
none_in = refl

-- a bit is put behind those of some words and of a last one
module _ (ws : List ℕ) (last filled n : ℕ) (b : Bool) (low : last < 2 ^ filled) (n_is : n ≡ digit b * 2 ^ filled + last) where
  -- in the last
  pub put_in : bits_of_words ws ++ bits_in n (filled + 1) ≡ (bits_of_words ws ++ bits_in last filled) ++ (b ∷ [])
  put_in =
      let next : filled + 1 ≡ suc filled = omega arith in
      ap (λ (m : ℕ). bits_of_words ws ++ bits_in m (filled + 1)) n_is
      ∙ ap (λ (k : ℕ). bits_of_words ws ++ bits_in (digit b * 2 ^ filled + last) k) next
      ∙ ap (λ (bs : List Bool). bits_of_words ws ++ bs) (bit_put b filled last low)
      ∙ sym (append_assoc (bits_of_words ws) (bits_in last filled) (b ∷ []))

  -- which is a word then, where it is full
  pub put_full : filled + 1 ≡ 64 → (vs : List ℕ) → vs ≡ ws ++ (n ∷ [])
      → bits_of_words vs ++ bits_in 0 0 ≡ (bits_of_words ws ++ bits_in last filled) ++ (b ∷ [])
  put_full full vs is =
      ap (λ (bs : List Bool). bits_of_words vs ++ bs) none_in ∙ append-nil (bits_of_words vs) ∙ ap bits_of_words is ∙ words_append ws n
      ∙ ap (λ (k : ℕ). bits_of_words ws ++ bits_in n k) (sym full) ∙ put_in

-- reading
-- so many bits are there
pub bits_count : (w n : ℕ) → length (bits_in w n) ≡ n
unfolding bits_in
bits_count w zero = refl
bits_count w (suc n) = omega (arith, length-append (bits_in w n) (bit w n ∷ []), bits_count w n)

-- words have 64 bits each
pub words_count : (ws : List ℕ) → length (bits_of_words ws) ≡ 64 * length ws
words_count [] = refl
words_count (w ∷ ws) = omega (arith, length-append (bits_in w 64) (bits_of_words ws), bits_count w 64, words_count ws)

-- one of them
bit_read : (w n k : ℕ) → k < n → get_or (bits_in w n) k false ≡ bit w k
unfolding bits_in
bit_read w zero k h = absurd (omega (arith, h))
bit_read w (suc n) k h = by_order (nat_le (suc k) n) refl (bit_read w n k)
  where
    -- by whether it is below the last
    by_order : (b : Bool) → nat_le (suc k) n ≡ b → (k < n → get_or (bits_in w n) k false ≡ bit w k)
        → get_or (bits_in w n ++ (bit w n ∷ [])) k false ≡ bit w k
    by_order true e before =
        let less : k < n = omega (arith, leb-true (suc k) n e) in
        get_or_append_left (bits_in w n) (bit w n ∷ []) false k (omega (arith, bits_count w n, less)) ∙ before less
    by_order false e before =
        let same : k ≡ n = omega (arith, leb-false (suc k) n e, h) in
        let first : k - n ≡ 0 = omega (arith, same) in
        get_or-append_right (bits_in w n) (bit w n ∷ []) n k false (bits_count w n) (omega (arith, same))
        ∙ ap (λ (i : ℕ). get_or (bit w n ∷ []) i false) first ∙ ap (bit w) (sym same)

-- above the bits of a number there are none
none_above : (w n k : ℕ) → w < 2 ^ n → n ≤ k → bit w k ≡ false
none_above w n k h above = ap (λ (m : ℕ). m % 2 == 1) (div-eq_of_lt (omega (arith, h, pow_mono above)))

-- so its first ones have all
low_read : (w n k : ℕ) → w < 2 ^ n → get_or (bits_in w n) k false ≡ bit w k
low_read w n k h = by_order (nat_le (suc k) n) refl
  where
    by_order : (b : Bool) → nat_le (suc k) n ≡ b → get_or (bits_in w n) k false ≡ bit w k
    by_order true e = bit_read w n k (omega (arith, leb-true (suc k) n e))
    by_order false e =
        let past : n ≤ k = omega (arith, leb-false (suc k) n e) in
        get_or_past (bits_in w n) k false (omega (arith, bits_count w n, past)) ∙ sym (none_above w n k h past)

-- the bit at a place is one of the word there
pub word_read : (ws : List ℕ) (last filled place : ℕ) → filled < 64 → last < 2 ^ filled
    → bit (get_or (ws ++ (last ∷ [])) (place / 64) 0) (place % 64) ≡ get_or (bits_of_words ws ++ bits_in last filled) place false
word_read [] last filled place few low = by_order (nat_le 64 place) refl
  where
    by_order : (b : Bool) → nat_le 64 place ≡ b → bit (get_or (last ∷ []) (place / 64) 0) (place % 64) ≡ get_or (bits_in last filled) place false
    by_order true e =
        let past : 64 ≤ place = leb-true 64 place e in
        ap (λ (w : ℕ). bit w (place % 64)) (get_or_past (last ∷ []) (place / 64) 0 (omega (arith, past)))
        ∙ none_above 0 0 (place % 64) (pow_pos 0) (omega arith)
        ∙ sym (get_or_past (bits_in last filled) place false (omega (arith, bits_count last filled, few, past)))
    by_order false e =
        let within : place < 64 = leb-false 64 place e in
        let none : place / 64 ≡ 0 = omega (arith, within) in
        let all : place % 64 ≡ place = omega (arith, within) in
        ap (λ (n : ℕ). bit (get_or (last ∷ []) n 0) (place % 64)) none ∙ ap (bit last) all ∙ sym (low_read last filled place low)
word_read (w ∷ ws) last filled place few low = by_order (nat_le 64 place) refl (word_read ws last filled (place - 64) few low)
  where
    rest : List Bool
    rest = bits_of_words ws ++ bits_in last filled

    by_order : (b : Bool) → nat_le 64 place ≡ b
        → bit (get_or (ws ++ (last ∷ [])) ((place - 64) / 64) 0) ((place - 64) % 64) ≡ get_or rest (place - 64) false
        → bit (get_or (w ∷ (ws ++ (last ∷ []))) (place / 64) 0) (place % 64)
        ≡ get_or ((bits_in w 64 ++ bits_of_words ws) ++ bits_in last filled) place false
    by_order true e others =
        let past : 64 ≤ place = leb-true 64 place e in
        let number : place / 64 ≡ suc ((place - 64) / 64) = omega (arith, past) in
        let same : place % 64 ≡ (place - 64) % 64 = omega (arith, past) in
        ap (λ (n : ℕ). bit (get_or (w ∷ (ws ++ (last ∷ []))) n 0) (place % 64)) number
        ∙ ap (bit (get_or (ws ++ (last ∷ [])) ((place - 64) / 64) 0)) same ∙ others
        ∙ sym (ap (λ (l : List Bool). get_or l place false) (append_assoc (bits_in w 64) (bits_of_words ws) (bits_in last filled))
        ∙ get_or-append_right (bits_in w 64) rest 64 place false (bits_count w 64) past)
    by_order false e others =
        let within : place < 64 = leb-false 64 place e in
        let none : place / 64 ≡ 0 = omega (arith, within) in
        let all : place % 64 ≡ place = omega (arith, within) in
        ap (λ (n : ℕ). bit (get_or (w ∷ (ws ++ (last ∷ []))) n 0) (place % 64)) none ∙ ap (bit w) all ∙ sym (bit_read w 64 place within)
        ∙ sym (ap (λ (l : List Bool). get_or l place false) (append_assoc (bits_in w 64) (bits_of_words ws) (bits_in last filled))
        ∙ get_or_append_left (bits_in w 64) rest false place (omega (arith, bits_count w 64, within)))
