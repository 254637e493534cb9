-- The code of a group of one to five bytes, character by character.
use Rattle.std.proofs.Common.{◌≡◌, ℕ, zero, suc, ◌+◌, ◌-◌, ◌*◌, ◌/◌, ◌%◌, ◌<◌, ◌≤◌, nat_lt, Bool, false, cond, List, [], ◌∷◌, length, take, drop, replicate}
use Rattle.std.proofs.Common.{slice_index, refl, sym, ◌∙◌, arith}
use Rattle.strkw_coding.specs.Rfc4648.{AreBytes}
use Rattle.strkw_coding.specs.Blocks.{code32}
use Rattle.strkw_coding.proofs.Encoders.{cons_at}
use Rattle.strkw_coding.proofs.Codes32.{code32-1, code32-2, code32-3, code32-4, code32-5}

-- the letter of a value, or padding
abbrev pub letter_or : List ℕ → Bool → ℕ → ℕ
letter_or abc is_padding v = cond is_padding 61 (slice_index abc v)

-- the eight characters of a group
abbrev pub group_code : List ℕ → ℕ → List ℕ → List ℕ
group_code abc len bytes =
    let a = slice_index bytes 0 in
    let b = slice_index bytes 1 in
    let c = slice_index bytes 2 in
    let d = slice_index bytes 3 in
    let e = slice_index bytes 4 in
    letter_or abc false (a / 8) ∷ letter_or abc false (a % 8 * 4 + b / 64)
    ∷ letter_or abc (nat_lt len 2) (b / 2 % 32) ∷ letter_or abc (nat_lt len 2) (b % 2 * 16 + c / 16)
    ∷ letter_or abc (nat_lt len 3) (c % 16 * 2 + d / 128) ∷ letter_or abc (nat_lt len 4) (d / 4 % 32)
    ∷ letter_or abc (nat_lt len 4) (d % 4 * 8 + e / 32) ∷ letter_or abc (nat_lt len 5) (e % 32) ∷ []

-- they are the code of the first `len` of five bytes, where the others are 0
pub group_code-code : (abc bytes : List ℕ) (len : ℕ) → length bytes ≡ 5 → AreBytes bytes → 0 < len → len ≤ 5
    → drop len bytes ≡ replicate (5 - len) 0 → group_code abc len bytes ≡ code32 abc (take len bytes)
group_code-code abc (a ∷ b ∷ c ∷ d ∷ e ∷ []) zero five h some few zeros = absurd (omega arith)
group_code-code abc (a ∷ b ∷ c ∷ d ∷ e ∷ []) (suc zero) five h some few zeros =
    let zb : b ≡ 0 = cc zeros in
    let zc : c ≡ 0 = cc zeros in
    let zd : d ≡ 0 = cc zeros in
    let ze : e ≡ 0 = cc zeros in
    cons_at abc _ _ _ _ (omega arith) (cons_at abc _ _ _ _ (omega arith) refl) ∙ sym (code32-1 abc a (h 0))
group_code-code abc (a ∷ b ∷ c ∷ d ∷ e ∷ []) (suc (suc zero)) five h some few zeros =
    let zc : c ≡ 0 = cc zeros in
    let zd : d ≡ 0 = cc zeros in
    let ze : e ≡ 0 = cc zeros in
    cons_at abc _ _ _ _ (omega arith) (cons_at abc _ _ _ _ (omega arith) (cons_at abc _ _ _ _ (omega arith) (cons_at abc _ _ _ _ (omega arith) refl)))
    ∙ sym (code32-2 abc a b (h 0) (h 1))
group_code-code abc (a ∷ b ∷ c ∷ d ∷ e ∷ []) (suc (suc (suc zero))) five h some few zeros =
    let zd : d ≡ 0 = cc zeros in
    let ze : e ≡ 0 = cc zeros in
    cons_at abc _ _ _ _ (omega arith) (cons_at abc _ _ _ _ (omega arith)
    (cons_at abc _ _ _ _ (omega arith) (cons_at abc _ _ _ _ (omega arith) (cons_at abc _ _ _ _ (omega arith) refl))))
    ∙ sym (code32-3 abc a b c (h 0) (h 1) (h 2))
group_code-code abc (a ∷ b ∷ c ∷ d ∷ e ∷ []) (suc (suc (suc (suc zero)))) five h some few zeros =
    let ze : e ≡ 0 = cc zeros in
    cons_at abc _ _ _ _ (omega arith) (cons_at abc _ _ _ _ (omega arith)
    (cons_at abc _ _ _ _ (omega arith) (cons_at abc _ _ _ _ (omega arith)
    (cons_at abc _ _ _ _ (omega arith) (cons_at abc _ _ _ _ (omega arith) (cons_at abc _ _ _ _ (omega arith) refl))))))
    ∙ sym (code32-4 abc a b c d (h 0) (h 1) (h 2) (h 3))
group_code-code abc (a ∷ b ∷ c ∷ d ∷ e ∷ []) (suc (suc (suc (suc (suc zero))))) five h some few zeros =
    cons_at abc _ _ _ _ (omega arith) (cons_at abc _ _ _ _ (omega arith)
    (cons_at abc _ _ _ _ (omega arith) (cons_at abc _ _ _ _ (omega arith)
    (cons_at abc _ _ _ _ (omega arith) (cons_at abc _ _ _ _ (omega arith) (cons_at abc _ _ _ _ (omega arith) (cons_at abc _ _ _ _ (omega arith) refl)))))))
    ∙ sym (code32-5 abc a b c d e (h 0) (h 1) (h 2) (h 3) (h 4))
group_code-code abc (a ∷ b ∷ c ∷ d ∷ e ∷ []) (suc (suc (suc (suc (suc (suc len)))))) five h some few zeros = absurd (omega arith)
group_code-code abc [] len five h some few zeros = absurd (omega arith)
group_code-code abc (a ∷ []) len five h some few zeros = absurd (omega arith)
group_code-code abc (a ∷ b ∷ []) len five h some few zeros = absurd (omega arith)
group_code-code abc (a ∷ b ∷ c ∷ []) len five h some few zeros = absurd (omega arith)
group_code-code abc (a ∷ b ∷ c ∷ d ∷ []) len five h some few zeros = absurd (omega arith)
group_code-code abc (a ∷ b ∷ c ∷ d ∷ e ∷ f ∷ rest) len five h some few zeros = absurd (omega arith)
