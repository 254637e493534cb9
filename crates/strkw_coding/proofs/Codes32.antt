-- The codes of five bits a letter, written out for one block, and block by block.
use Rattle.std.proofs.Common.{◌≡◌, ℕ, suc, ◌+◌, ◌*◌, ◌/◌, ◌%◌, ◌<◌, List, [], ◌∷◌, ◌++◌, length, slice_index, refl, arith}
use Rattle.strkw_coding.specs.Rfc4648.{bits, number, letters, letter_count, padding_count, AreBytes}
use Rattle.strkw_coding.specs.Blocks.{code32}
use Rattle.strkw_coding.proofs.Encoders.{cons_at}

-- the code of one byte is two letters of its bits, and six `=`
pub code32-1 : (abc : List ℕ) (a : ℕ) → a < 256 → code32 abc (a ∷ []) ≡ slice_index abc (a / 8) ∷ slice_index abc (a % 8 * 4) ∷ 61 ∷ 61 ∷ 61 ∷ 61 ∷ 61 ∷ 61 ∷ []
unfolding code32 bits number letters
code32-1 abc a fa = cons_at abc _ _ _ _ (omega arith) (cons_at abc _ _ _ _ (omega arith) refl)

-- that of two bytes is four letters, and four `=`
pub code32-2 : (abc : List ℕ) (a b : ℕ) → a < 256 → b < 256
    → code32 abc (a ∷ b ∷ []) ≡ slice_index abc (a / 8) ∷ slice_index abc (a % 8 * 4 + b / 64) ∷ slice_index abc (b / 2 % 32) ∷ slice_index abc (b % 2 * 16)
    ∷ 61 ∷ 61 ∷ 61 ∷ 61 ∷ []
unfolding code32 bits number letters
code32-2 abc a b fa fb = cons_at abc _ _ _ _ (omega arith)
    (cons_at abc _ _ _ _ (omega arith) (cons_at abc _ _ _ _ (omega arith) (cons_at abc _ _ _ _ (omega arith) refl)))

-- that of three bytes is five letters, and three `=`
pub code32-3 : (abc : List ℕ) (a b c : ℕ) → a < 256 → b < 256 → c < 256
    → code32 abc (a ∷ b ∷ c ∷ []) ≡ slice_index abc (a / 8) ∷ slice_index abc (a % 8 * 4 + b / 64) ∷ slice_index abc (b / 2 % 32) ∷ slice_index abc
    (b % 2 * 16 + c / 16) ∷ slice_index abc (c % 16 * 2) ∷ 61 ∷ 61 ∷ 61 ∷ []
unfolding code32 bits number letters
code32-3 abc a b c fa fb fc = cons_at abc _ _ _ _ (omega arith)
    (cons_at abc _ _ _ _ (omega arith) (cons_at abc _ _ _ _ (omega arith) (cons_at abc _ _ _ _ (omega arith) (cons_at abc _ _ _ _ (omega arith) refl))))

-- that of four bytes is seven letters, and one `=`
pub code32-4 : (abc : List ℕ) (a b c d : ℕ) → a < 256 → b < 256 → c < 256 → d < 256
    → code32 abc (a ∷ b ∷ c ∷ d ∷ []) ≡ slice_index abc (a / 8) ∷ slice_index abc (a % 8 * 4 + b / 64) ∷ slice_index abc (b / 2 % 32) ∷ slice_index abc
    (b % 2 * 16 + c / 16) ∷ slice_index abc (c % 16 * 2 + d / 128) ∷ slice_index abc (d / 4 % 32) ∷ slice_index abc (d % 4 * 8) ∷ 61 ∷ []
unfolding code32 bits number letters
code32-4 abc a b c d fa fb fc fd = cons_at abc _ _ _ _ (omega arith)
    (cons_at abc _ _ _ _ (omega arith) (cons_at abc _ _ _ _ (omega arith)
    (cons_at abc _ _ _ _ (omega arith) (cons_at abc _ _ _ _ (omega arith) (cons_at abc _ _ _ _ (omega arith) (cons_at abc _ _ _ _ (omega arith) refl))))))

-- and that of five bytes is eight letters, and no `=`
pub code32-5 : (abc : List ℕ) (a b c d e : ℕ) → a < 256 → b < 256 → c < 256 → d < 256 → e < 256
    → code32 abc (a ∷ b ∷ c ∷ d ∷ e ∷ []) ≡ slice_index abc (a / 8) ∷ slice_index abc (a % 8 * 4 + b / 64) ∷ slice_index abc (b / 2 % 32) ∷ slice_index abc
    (b % 2 * 16 + c / 16) ∷ slice_index abc (c % 16 * 2 + d / 128) ∷ slice_index abc (d / 4 % 32) ∷ slice_index abc (d % 4 * 8 + e / 32) ∷ slice_index abc
    (e % 32) ∷ []
unfolding code32 bits number letters
code32-5 abc a b c d e fa fb fc fd fe = cons_at abc _ _ _ _ (omega arith)
    (cons_at abc _ _ _ _ (omega arith) (cons_at abc _ _ _ _ (omega arith)
    (cons_at abc _ _ _ _ (omega arith) (cons_at abc _ _ _ _ (omega arith)
    (cons_at abc _ _ _ _ (omega arith) (cons_at abc _ _ _ _ (omega arith) (cons_at abc _ _ _ _ (omega arith) refl)))))))

-- a whole block comes first
-- the code of five bytes and more is their eight letters, and the code of the rest
pub code32-block : (abc : List ℕ) (a b c d e : ℕ) (rest : List ℕ) → a < 256 → b < 256 → c < 256 → d < 256 → e < 256
    → code32 abc (a ∷ b ∷ c ∷ d ∷ e ∷ rest) ≡ slice_index abc (a / 8) ∷ slice_index abc (a % 8 * 4 + b / 64) ∷ slice_index abc (b / 2 % 32) ∷ slice_index abc
    (b % 2 * 16 + c / 16) ∷ slice_index abc (c % 16 * 2 + d / 128) ∷ slice_index abc (d / 4 % 32) ∷ slice_index abc (d % 4 * 8 + e / 32) ∷ slice_index abc
    (e % 32) ∷ code32 abc rest
unfolding code32 bits number letters
code32-block abc a b c d e rest fa fb fc fd fe =
    let n : letter_count 5 (length (a ∷ b ∷ c ∷ d ∷ e ∷ rest)) ≡ suc (suc (suc (suc (suc (suc (suc (suc (letter_count 5 (length rest))))))))) = omega arith in
    let m : padding_count 8 (suc (suc (suc (suc (suc (suc (suc (suc (letter_count 5 (length rest)))))))))) ≡ padding_count 8 (letter_count 5 (length rest)) =
    omega arith in
    rw (n, m) (cons_at abc _ _ _ _ (omega arith) (cons_at abc _ _ _ _ (omega arith)
    (cons_at abc _ _ _ _ (omega arith) (cons_at abc _ _ _ _ (omega arith)
    (cons_at abc _ _ _ _ (omega arith) (cons_at abc _ _ _ _ (omega arith) (cons_at abc _ _ _ _ (omega arith) (cons_at abc _ _ _ _ (omega arith) refl))))))))

-- the code of no bytes is empty
pub code32-nil : (abc : List ℕ) → code32 abc [] ≡ []
unfolding code32 letters
code32-nil abc = refl

-- a whole number of blocks, and more
-- have as their code that of the blocks, and then that of the rest
pub code32-append : (abc xs ys : List ℕ) → AreBytes xs → length xs % 5 ≡ 0 → code32 abc (xs ++ ys) ≡ code32 abc xs ++ code32 abc ys
code32-append abc [] ys h whole = rw (code32-nil abc) refl
code32-append abc (a ∷ []) ys h whole = absurd (omega arith)
code32-append abc (a ∷ b ∷ []) ys h whole = absurd (omega arith)
code32-append abc (a ∷ b ∷ c ∷ []) ys h whole = absurd (omega arith)
code32-append abc (a ∷ b ∷ c ∷ d ∷ []) ys h whole = absurd (omega arith)
code32-append abc (a ∷ b ∷ c ∷ d ∷ e ∷ xs) ys h whole =
    let ih = code32-append abc xs ys (λ i. h (suc (suc (suc (suc (suc i)))))) (omega arith) in
    rw (code32-block abc a b c d e (xs ++ ys) (h 0) (h 1) (h 2) (h 3) (h 4), code32-block abc a b c d e xs (h 0) (h 1) (h 2) (h 3) (h 4), ih) refl
