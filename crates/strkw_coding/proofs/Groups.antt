-- What a block of eight characters stands for.
use Rattle.std.proofs.Common.{◌≡◌, ℕ, ◌+◌, ◌-◌, ◌*◌, ◌/◌, ◌%◌, ◌<◌, ◌≤◌, ◌==◌, ◌&&◌, nat_lt, Bool, true, false, not, if◌then◌else◌, unwrap_or}
use Rattle.std.proofs.Common.{List, [], ◌∷◌, ◌++◌, length, replicate, slice_index, refl, sym, arith}
use Rattle.std.specs.Prelude.{position}
use Rattle.std.proofs.lemmas.Bool.{and_parts, eqb-true, not-true}
use Rattle.strkw_coding.specs.Rfc4648.{AreBytes}
use Rattle.strkw_coding.specs.Blocks.{code32, passes_below, value_of, is_letter_at, is_alphabet, is_letter, is_table, group_len, block_bytes}
use Rattle.strkw_coding.proofs.Passes.{passes_below-at}
use Rattle.strkw_coding.proofs.Codes32.{code32-1, code32-2, code32-3, code32-4, code32-5}

-- the test of an alphabet, at one letter
-- holds at each place below 32
letter_at : (abc : List ℕ) (d : ℕ) → is_alphabet abc ≡ true → d < 32 → is_letter_at abc d ≡ true
unfolding is_alphabet
letter_at abc d alpha lt =
    let parts = and_parts (passes_below (is_letter_at abc) 32) (unwrap_or (position (λ x. x == 61) abc) 0 == 0) alpha in
    passes_below-at (is_letter_at abc) 32 d parts.0 lt

-- a letter has its place
letter_value : (abc : List ℕ) (d : ℕ) → is_alphabet abc ≡ true → d < 32 → value_of abc (slice_index abc d) ≡ d
unfolding value_of
letter_value abc d alpha lt = eqb-true _ _ (and_parts _ _ (letter_at abc d alpha lt)).0

-- a letter is no padding
pub letter_not_padding : (abc : List ℕ) (d : ℕ) → is_alphabet abc ≡ true → d < 32 → (slice_index abc d == 61) ≡ false
letter_not_padding abc d alpha lt = not-true _ (and_parts _ _ (letter_at abc d alpha lt)).1

-- padding counts as 0
padding_value : (abc : List ℕ) → is_alphabet abc ≡ true → value_of abc 61 ≡ 0
unfolding is_alphabet value_of
padding_value abc alpha =
    eqb-true _ _ (and_parts (passes_below (is_letter_at abc) 32) (unwrap_or (position (λ x. x == 61) abc) 0 == 0) alpha).1

-- the group of a block
-- it has the length of these bytes, and is these bytes filled with zeros to five
pub record IsGroup (abc block p : List ℕ) : Type 0 where
  pub len : group_len block ≡ length p
  pub bytes : block_bytes abc block ≡ p ++ replicate (5 - length p) 0

-- five numbers that are each the same make the same list
same_five : {a b c d e v w x y z : ℕ} → a ≡ v → b ≡ w → c ≡ x → d ≡ y → e ≡ z → a ∷ b ∷ c ∷ d ∷ e ∷ [] ≡ v ∷ w ∷ x ∷ y ∷ z ∷ []
same_five p q r s t = rw (p, q, r, s, t) refl

-- the code of one byte stands for that byte
group-1 : (abc : List ℕ) (a : ℕ) → is_alphabet abc ≡ true → a < 256 → IsGroup abc (code32 abc (a ∷ [])) (a ∷ [])
group-1 abc a alpha fa =
    let v0 : value_of abc (slice_index abc (a / 8)) ≡ a / 8 = letter_value abc (a / 8) alpha (omega arith) in
    let v1 : value_of abc (slice_index abc (a % 8 * 4)) ≡ a % 8 * 4 = letter_value abc (a % 8 * 4) alpha (omega arith) in
    let pad = padding_value abc alpha in
    rw (code32-1 abc a fa) record {
      len = refl;
      bytes = rw (v0, v1, pad) (same_five (omega arith) (omega arith) (omega arith) (omega arith) (omega arith));
    }

-- that of two bytes stands for the two
group-2 : (abc : List ℕ) (a b : ℕ) → is_alphabet abc ≡ true → a < 256 → b < 256 → IsGroup abc (code32 abc (a ∷ b ∷ [])) (a ∷ b ∷ [])
group-2 abc a b alpha fa fb =
    let v0 : value_of abc (slice_index abc (a / 8)) ≡ a / 8 = letter_value abc (a / 8) alpha (omega arith) in
    let v1 : value_of abc (slice_index abc (a % 8 * 4 + b / 64)) ≡ a % 8 * 4 + b / 64 = letter_value abc (a % 8 * 4 + b / 64) alpha (omega arith) in
    let v2 : value_of abc (slice_index abc (b / 2 % 32)) ≡ b / 2 % 32 = letter_value abc (b / 2 % 32) alpha (omega arith) in
    let v3 : value_of abc (slice_index abc (b % 2 * 16)) ≡ b % 2 * 16 = letter_value abc (b % 2 * 16) alpha (omega arith) in
    let n2 : (slice_index abc (b / 2 % 32) == 61) ≡ false = letter_not_padding abc (b / 2 % 32) alpha (omega arith) in
    let pad = padding_value abc alpha in
    rw (code32-2 abc a b fa fb) record {
      len = rw n2 refl;
      bytes = rw (v0, v1, v2, v3, pad) (same_five (omega arith) (omega arith) (omega arith) (omega arith) (omega arith));
    }

-- that of three bytes stands for the three
group-3 : (abc : List ℕ) (a b c : ℕ) → is_alphabet abc ≡ true → a < 256 → b < 256 → c < 256 → IsGroup abc (code32 abc (a ∷ b ∷ c ∷ [])) (a ∷ b ∷ c ∷ [])
group-3 abc a b c alpha fa fb fc =
    let v0 : value_of abc (slice_index abc (a / 8)) ≡ a / 8 = letter_value abc (a / 8) alpha (omega arith) in
    let v1 : value_of abc (slice_index abc (a % 8 * 4 + b / 64)) ≡ a % 8 * 4 + b / 64 = letter_value abc (a % 8 * 4 + b / 64) alpha (omega arith) in
    let v2 : value_of abc (slice_index abc (b / 2 % 32)) ≡ b / 2 % 32 = letter_value abc (b / 2 % 32) alpha (omega arith) in
    let v3 : value_of abc (slice_index abc (b % 2 * 16 + c / 16)) ≡ b % 2 * 16 + c / 16 = letter_value abc (b % 2 * 16 + c / 16) alpha (omega arith) in
    let v4 : value_of abc (slice_index abc (c % 16 * 2)) ≡ c % 16 * 2 = letter_value abc (c % 16 * 2) alpha (omega arith) in
    let n2 : (slice_index abc (b / 2 % 32) == 61) ≡ false = letter_not_padding abc (b / 2 % 32) alpha (omega arith) in
    let n4 : (slice_index abc (c % 16 * 2) == 61) ≡ false = letter_not_padding abc (c % 16 * 2) alpha (omega arith) in
    let pad = padding_value abc alpha in
    rw (code32-3 abc a b c fa fb fc) record {
      len = rw (n2, n4) refl;
      bytes = rw (v0, v1, v2, v3, v4, pad) (same_five (omega arith) (omega arith) (omega arith) (omega arith) (omega arith));
    }

-- that of four bytes stands for the four
group-4 : (abc : List ℕ) (a b c d : ℕ) → is_alphabet abc ≡ true → a < 256 → b < 256 → c < 256 → d < 256
    → IsGroup abc (code32 abc (a ∷ b ∷ c ∷ d ∷ [])) (a ∷ b ∷ c ∷ d ∷ [])
group-4 abc a b c d alpha fa fb fc fd =
    let v0 : value_of abc (slice_index abc (a / 8)) ≡ a / 8 = letter_value abc (a / 8) alpha (omega arith) in
    let v1 : value_of abc (slice_index abc (a % 8 * 4 + b / 64)) ≡ a % 8 * 4 + b / 64 = letter_value abc (a % 8 * 4 + b / 64) alpha (omega arith) in
    let v2 : value_of abc (slice_index abc (b / 2 % 32)) ≡ b / 2 % 32 = letter_value abc (b / 2 % 32) alpha (omega arith) in
    let v3 : value_of abc (slice_index abc (b % 2 * 16 + c / 16)) ≡ b % 2 * 16 + c / 16 = letter_value abc (b % 2 * 16 + c / 16) alpha (omega arith) in
    let v4 : value_of abc (slice_index abc (c % 16 * 2 + d / 128)) ≡ c % 16 * 2 + d / 128 = letter_value abc (c % 16 * 2 + d / 128) alpha (omega arith) in
    let v5 : value_of abc (slice_index abc (d / 4 % 32)) ≡ d / 4 % 32 = letter_value abc (d / 4 % 32) alpha (omega arith) in
    let v6 : value_of abc (slice_index abc (d % 4 * 8)) ≡ d % 4 * 8 = letter_value abc (d % 4 * 8) alpha (omega arith) in
    let n2 : (slice_index abc (b / 2 % 32) == 61) ≡ false = letter_not_padding abc (b / 2 % 32) alpha (omega arith) in
    let n4 : (slice_index abc (c % 16 * 2 + d / 128) == 61) ≡ false = letter_not_padding abc (c % 16 * 2 + d / 128) alpha (omega arith) in
    let n5 : (slice_index abc (d / 4 % 32) == 61) ≡ false = letter_not_padding abc (d / 4 % 32) alpha (omega arith) in
    let pad = padding_value abc alpha in
    rw (code32-4 abc a b c d fa fb fc fd) record {
      len = rw (n2, n4, n5) refl;
      bytes = rw (v0, v1, v2, v3, v4, v5, v6, pad) (same_five (omega arith) (omega arith) (omega arith) (omega arith) (omega arith));
    }

-- and that of five bytes stands for the five
group-5 : (abc : List ℕ) (a b c d e : ℕ) → is_alphabet abc ≡ true → a < 256 → b < 256 → c < 256 → d < 256 → e < 256
    → IsGroup abc (code32 abc (a ∷ b ∷ c ∷ d ∷ e ∷ [])) (a ∷ b ∷ c ∷ d ∷ e ∷ [])
group-5 abc a b c d e alpha fa fb fc fd fe =
    let v0 : value_of abc (slice_index abc (a / 8)) ≡ a / 8 = letter_value abc (a / 8) alpha (omega arith) in
    let v1 : value_of abc (slice_index abc (a % 8 * 4 + b / 64)) ≡ a % 8 * 4 + b / 64 = letter_value abc (a % 8 * 4 + b / 64) alpha (omega arith) in
    let v2 : value_of abc (slice_index abc (b / 2 % 32)) ≡ b / 2 % 32 = letter_value abc (b / 2 % 32) alpha (omega arith) in
    let v3 : value_of abc (slice_index abc (b % 2 * 16 + c / 16)) ≡ b % 2 * 16 + c / 16 = letter_value abc (b % 2 * 16 + c / 16) alpha (omega arith) in
    let v4 : value_of abc (slice_index abc (c % 16 * 2 + d / 128)) ≡ c % 16 * 2 + d / 128 = letter_value abc (c % 16 * 2 + d / 128) alpha (omega arith) in
    let v5 : value_of abc (slice_index abc (d / 4 % 32)) ≡ d / 4 % 32 = letter_value abc (d / 4 % 32) alpha (omega arith) in
    let v6 : value_of abc (slice_index abc (d % 4 * 8 + e / 32)) ≡ d % 4 * 8 + e / 32 = letter_value abc (d % 4 * 8 + e / 32) alpha (omega arith) in
    let v7 : value_of abc (slice_index abc (e % 32)) ≡ e % 32 = letter_value abc (e % 32) alpha (omega arith) in
    let n2 : (slice_index abc (b / 2 % 32) == 61) ≡ false = letter_not_padding abc (b / 2 % 32) alpha (omega arith) in
    let n4 : (slice_index abc (c % 16 * 2 + d / 128) == 61) ≡ false = letter_not_padding abc (c % 16 * 2 + d / 128) alpha (omega arith) in
    let n5 : (slice_index abc (d / 4 % 32) == 61) ≡ false = letter_not_padding abc (d / 4 % 32) alpha (omega arith) in
    let n7 : (slice_index abc (e % 32) == 61) ≡ false = letter_not_padding abc (e % 32) alpha (omega arith) in
    let pad = padding_value abc alpha in
    rw (code32-5 abc a b c d e fa fb fc fd fe) record {
      len = rw (n2, n4, n5, n7) refl;
      bytes = rw (v0, v1, v2, v3, v4, v5, v6, v7) (same_five (omega arith) (omega arith) (omega arith) (omega arith) (omega arith));
    }

-- the group of the code of one to five bytes
-- is those bytes
pub group_only : (abc block p : List ℕ) → is_alphabet abc ≡ true → AreBytes p → 0 < length p → length p ≤ 5 → block ≡ code32 abc p → IsGroup abc block p
group_only abc block [] alpha h some few is = absurd (omega arith)
group_only abc block (a ∷ []) alpha h some few is = rw is (group-1 abc a alpha (h 0))
group_only abc block (a ∷ b ∷ []) alpha h some few is = rw is (group-2 abc a b alpha (h 0) (h 1))
group_only abc block (a ∷ b ∷ c ∷ []) alpha h some few is = rw is (group-3 abc a b c alpha (h 0) (h 1) (h 2))
group_only abc block (a ∷ b ∷ c ∷ d ∷ []) alpha h some few is = rw is (group-4 abc a b c d alpha (h 0) (h 1) (h 2) (h 3))
group_only abc block (a ∷ b ∷ c ∷ d ∷ e ∷ []) alpha h some few is = rw is (group-5 abc a b c d e alpha (h 0) (h 1) (h 2) (h 3) (h 4))
group_only abc block (a ∷ b ∷ c ∷ d ∷ e ∷ f ∷ rest) alpha h some few is = absurd (omega arith)

-- ---- the table

-- two tests of which one holds exactly where the other does are the same
same_test : (a b : Bool) → (if a then b else not b) ≡ true → a ≡ b
same_test true true h = refl
same_test true false h = sym h
same_test false true h = h
same_test false false h = refl

-- the test of a table holds at each byte
table_at : (abc places : List ℕ) (c : ℕ) → is_table abc places ≡ true → c < 256
    → (slice_index places c % 32 == value_of abc c && (if nat_lt (slice_index places c) 32 then is_letter abc c else not (is_letter abc c))) ≡ true
unfolding is_table
table_at abc places c table lt =
    passes_below-at (λ d. slice_index places d % 32 == value_of abc d
    && (if nat_lt (slice_index places d) 32 then is_letter abc d else not (is_letter abc d))) 256 c table lt

-- the place of a letter is what its entry leaves by 32
pub table_value : (abc places : List ℕ) (c : ℕ) → is_table abc places ≡ true → c < 256 → slice_index places c % 32 ≡ value_of abc c
table_value abc places c table lt = eqb-true _ _ (and_parts _ _ (table_at abc places c table lt)).0

-- and a character is a letter exactly where its entry is below 32
pub table_letter : (abc places : List ℕ) (c : ℕ) → is_table abc places ≡ true → c < 256 → nat_lt (slice_index places c) 32 ≡ is_letter abc c
table_letter abc places c table lt = same_test _ _ (and_parts _ _ (table_at abc places c table lt)).1
