-- The code of bytes, group by group.
use Rattle.std.proofs.Common.{◌≡◌, ℕ, suc, ◌+◌, ◌*◌, ◌^◌, ◌<◌, List, [], ◌∷◌, ◌++◌, length, refl, codes, ◌∙◌, arith}
use Rattle.strkw_coding.specs.Rfc4648.{bits, number, letters, letter_count, padding_count, code_by}
use Rattle.strkw_coding.specs.Blocks.{code32}
use Rattle.strkw_coding.specs.Groups.{number_letters}
use Rattle.strkw_coding.proofs.Encoders.{cons_at}
use Rattle.strkw_coding.proofs.Codes32.{code32-1, code32-2, code32-3, code32-4, code32-block}

-- ---- three bytes, four letters

-- the code of one byte is two letters, with four zero bits filled in, and two `=`
pub threes-1 : (abc : List ℕ) (x : ℕ) → x < 256 → code_by abc 6 4 (x ∷ []) ≡ number_letters abc 6 2 (x * 2 ^ 4) ++ codes "=="
unfolding bits number letters number_letters
threes-1 abc x fx = cons_at abc _ _ _ _ (omega arith) (cons_at abc _ _ _ _ (omega arith) refl)

-- that of two bytes is three letters, with two zero bits filled in, and one `=`
pub threes-2 : (abc : List ℕ) (x y : ℕ) → x < 256 → y < 256 → code_by abc 6 4 (x ∷ y ∷ []) ≡ number_letters abc 6 3 ((x * 2 ^ 8 + y) * 2 ^ 2) ++ codes "="
unfolding bits number letters number_letters
threes-2 abc x y fx fy = cons_at abc _ _ _ _ (omega arith) (cons_at abc _ _ _ _ (omega arith) (cons_at abc _ _ _ _ (omega arith) refl))

-- and that of three and more is four letters for the three, and the code of the rest
pub threes-group : (abc : List ℕ) (x y z : ℕ) (rest : List ℕ) → x < 256 → y < 256 → z < 256
    → code_by abc 6 4 (x ∷ y ∷ z ∷ rest) ≡ number_letters abc 6 4 (x * 2 ^ 16 + y * 2 ^ 8 + z) ++ code_by abc 6 4 rest
unfolding bits number letters number_letters
threes-group abc x y z rest fx fy fz =
    let n : letter_count 6 (length (x ∷ y ∷ z ∷ rest)) ≡ suc (suc (suc (suc (letter_count 6 (length rest))))) = omega arith in
    let m : padding_count 4 (suc (suc (suc (suc (letter_count 6 (length rest)))))) ≡ padding_count 4 (letter_count 6 (length rest)) = omega arith in
    rw (n, m) (cons_at abc _ _ _ _ (omega arith) (cons_at abc _ _ _ _ (omega arith)
    (cons_at abc _ _ _ _ (omega arith) (cons_at abc _ _ _ _ (omega arith) refl))))

-- ---- five bytes, eight letters

-- the code of one byte is two letters, with two zero bits filled in, and six `=`
pub fives-1 : (abc : List ℕ) (v : ℕ) → v < 256 → code32 abc (v ∷ []) ≡ number_letters abc 5 2 (v * 2 ^ 2) ++ codes "======"
unfolding number_letters
fives-1 abc v fv = code32-1 abc v fv ∙ cons_at abc _ _ _ _ (omega arith) (cons_at abc _ _ _ _ (omega arith) refl)

-- that of two bytes is four letters, with four zero bits filled in, and four `=`
pub fives-2 : (abc : List ℕ) (v w : ℕ) → v < 256 → w < 256 → code32 abc (v ∷ w ∷ []) ≡ number_letters abc 5 4 ((v * 2 ^ 8 + w) * 2 ^ 4) ++ codes "===="
unfolding number_letters
fives-2 abc v w fv fw = code32-2 abc v w fv fw ∙ cons_at abc _ _ _ _ (omega arith)
    (cons_at abc _ _ _ _ (omega arith) (cons_at abc _ _ _ _ (omega arith) (cons_at abc _ _ _ _ (omega arith) refl)))

-- that of three bytes is five letters, with one zero bit filled in, and three `=`
pub fives-3 : (abc : List ℕ) (v w x : ℕ) → v < 256 → w < 256 → x < 256
    → code32 abc (v ∷ w ∷ x ∷ []) ≡ number_letters abc 5 5 ((v * 2 ^ 16 + w * 2 ^ 8 + x) * 2) ++ codes "==="
unfolding number_letters
fives-3 abc v w x fv fw fx = code32-3 abc v w x fv fw fx
    ∙ cons_at abc _ _ _ _ (omega arith) (cons_at abc _ _ _ _ (omega arith)
    (cons_at abc _ _ _ _ (omega arith) (cons_at abc _ _ _ _ (omega arith) (cons_at abc _ _ _ _ (omega arith) refl))))

-- that of four bytes is seven letters, with three zero bits filled in, and one `=`
pub fives-4 : (abc : List ℕ) (v w x y : ℕ) → v < 256 → w < 256 → x < 256 → y < 256
    → code32 abc (v ∷ w ∷ x ∷ y ∷ []) ≡ number_letters abc 5 7 ((v * 2 ^ 24 + w * 2 ^ 16 + x * 2 ^ 8 + y) * 2 ^ 3) ++ codes "="
unfolding number_letters
fives-4 abc v w x y fv fw fx fy = code32-4 abc v w x y fv fw fx fy
    ∙ cons_at abc _ _ _ _ (omega arith) (cons_at abc _ _ _ _ (omega arith) (cons_at abc _ _ _ _ (omega arith) (cons_at abc _ _ _ _ (omega arith)
    (cons_at abc _ _ _ _ (omega arith) (cons_at abc _ _ _ _ (omega arith) (cons_at abc _ _ _ _ (omega arith) refl))))))

-- and that of five and more is eight letters for the five, and the code of the rest
pub fives-group : (abc : List ℕ) (v w x y z : ℕ) (rest : List ℕ) → v < 256 → w < 256 → x < 256 → y < 256 → z < 256
    → code32 abc (v ∷ w ∷ x ∷ y ∷ z ∷ rest) ≡ number_letters abc 5 8 (v * 2 ^ 32 + w * 2 ^ 24 + x * 2 ^ 16 + y * 2 ^ 8 + z) ++ code32 abc rest
unfolding number_letters
fives-group abc v w x y z rest fv fw fx fy fz = code32-block abc v w x y z rest fv fw fx fy fz
    ∙ cons_at abc _ _ _ _ (omega arith) (cons_at abc _ _ _ _ (omega arith) (cons_at abc _ _ _ _ (omega arith) (cons_at abc _ _ _ _ (omega arith)
    (cons_at abc _ _ _ _ (omega arith) (cons_at abc _ _ _ _ (omega arith) (cons_at abc _ _ _ _ (omega arith) (cons_at abc _ _ _ _ (omega arith) refl)))))))

-- ---- one byte, two letters

-- the code of a byte and more is two letters for the byte, and the code of the rest
pub ones-group : (abc : List ℕ) (z : ℕ) (rest : List ℕ) → z < 256 → code_by abc 4 2 (z ∷ rest) ≡ number_letters abc 4 2 z ++ code_by abc 4 2 rest
unfolding bits number letters number_letters
ones-group abc z rest fz =
    let n : letter_count 4 (length (z ∷ rest)) ≡ suc (suc (letter_count 4 (length rest))) = omega arith in
    let m : padding_count 2 (suc (suc (letter_count 4 (length rest)))) ≡ padding_count 2 (letter_count 4 (length rest)) = omega arith in
    rw (n, m) (cons_at abc _ _ _ _ (omega arith) (cons_at abc _ _ _ _ (omega arith) refl))
