-- A code of five bits a letter is the code of one list of bytes.
use Rattle.std.proofs.Common.{◌≡◌, ℕ, zero, suc, ◌-◌, ◌<◌, ◌≤◌, true, List, [], ◌∷◌, ◌++◌, length, take, drop, replicate, refl, sym, ap, ◌∙◌, arith}
use Rattle.std.proofs.lemmas.List.{length-append, take_at}
use Rattle.strkw_coding.specs.Rfc4648.{AreBytes}
use Rattle.strkw_coding.specs.Blocks.{code32, is_alphabet}
use Rattle.strkw_coding.proofs.Codes32.{code32-nil, code32-1, code32-2, code32-3, code32-4, code32-block}
use Rattle.strkw_coding.proofs.Groups.{group_only}
use Rattle.strkw_coding.proofs.FirstBlocks.{first_block}

-- where there are bytes, their code is not empty
some_code : (abc b : List ℕ) → AreBytes b → 0 < length b → 0 < length (code32 abc b)
some_code abc [] h some = absurd (omega arith)
some_code abc (a ∷ []) h some = rw (code32-1 abc a (h 0)) (omega arith)
some_code abc (a ∷ b ∷ []) h some = rw (code32-2 abc a b (h 0) (h 1)) (omega arith)
some_code abc (a ∷ b ∷ c ∷ []) h some = rw (code32-3 abc a b c (h 0) (h 1) (h 2)) (omega arith)
some_code abc (a ∷ b ∷ c ∷ d ∷ []) h some = rw (code32-4 abc a b c d (h 0) (h 1) (h 2) (h 3)) (omega arith)
some_code abc (a ∷ b ∷ c ∷ d ∷ e ∷ rest) h some = rw (code32-block abc a b c d e rest (h 0) (h 1) (h 2) (h 3) (h 4)) (omega arith)

-- by one alphabet no two lists of bytes have the same code
pub code32-once : (abc : List ℕ) (n : ℕ) (a b : List ℕ) → is_alphabet abc ≡ true → length a ≤ n → AreBytes a → AreBytes b → code32 abc a ≡ code32 abc b → a ≡ b
code32-once abc n [] [] alpha few ha hb e = refl
code32-once abc n [] (y ∷ ys) alpha few ha hb e =
    let some = some_code abc (y ∷ ys) hb (omega arith) in
    let len = ap length (sym (code32-nil abc) ∙ e) in
    absurd (omega (arith, some, len))
code32-once abc n (x ∷ xs) [] alpha few ha hb e =
    let some = some_code abc (x ∷ xs) ha (omega arith) in
    let len = ap length (e ∙ code32-nil abc) in
    absurd (omega (arith, some, len))
code32-once abc zero (x ∷ xs) (y ∷ ys) alpha few ha hb e = absurd (omega arith)
code32-once abc (suc n) (x ∷ xs) (y ∷ ys) alpha few ha hb e =
    let f = first_block abc (x ∷ xs) ha (some_code abc (x ∷ xs) ha (omega arith)) in
    let g = first_block abc (y ∷ ys) hb (some_code abc (y ∷ ys) hb (omega arith)) in
    let blocks : code32 abc f.0 ≡ code32 abc g.0 = sym f.2.block ∙ ap (take 8) e ∙ g.2.block in
    let gf = group_only abc (code32 abc f.0) f.0 alpha f.2.are_bytes f.2.some f.2.few refl in
    let gg = group_only abc (code32 abc f.0) g.0 alpha g.2.are_bytes g.2.some g.2.few blocks in
    let len : length f.0 ≡ length g.0 = sym gf.len ∙ gg.len in
    let front : f.0 ≡ g.0 =
    sym (take_at f.0 (replicate (5 - length f.0) 0) (length f.0) refl) ∙ ap (take (length f.0)) (sym gf.bytes ∙ gg.bytes)
    ∙ take_at g.0 (replicate (5 - length g.0) 0) (length f.0) (sym len) in
    let rest : code32 abc f.1 ≡ code32 abc g.1 = sym f.2.after ∙ ap (drop 8) e ∙ g.2.after in
    let whole = ap length f.3 in
    let some = f.2.some in
    let short : length f.1 ≤ n = omega (arith, whole, some, few, length-append f.0 f.1) in
    let tail = code32-once abc n f.1 g.1 alpha short f.2.rest_bytes g.2.rest_bytes rest in
    f.3 ∙ ap (λ (p : List ℕ). p ++ f.1) front ∙ ap (λ (q : List ℕ). g.0 ++ q) tail ∙ sym g.3
