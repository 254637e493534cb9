-- What the encoders of `base64` and `hex` write is the code, their alphabets included.
use Rattle.std.proofs.Common.{◌≡◌, ℕ, suc, ◌<◌, List, [], ◌∷◌, length, slice_index, refl, arith}
use Rattle.strkw_coding.specs.Rfc4648.{bits, bits_of, number, letters, letter_count, padding_count, alphabet, code, AreBytes}
use Rattle.strkw_coding.specs.declared.codec.Codec.TheVariants.{Base64, Base64Url, Base16}
use Rattle.base64.specs.Rfc4648.{encode_symbols, padding_len}
use Rattle.base64.specs.GeneralPurpose.{encode_of}
use Rattle.base64.specs.Engines.{standard, url_safe}
use Rattle.hex.specs.Hex.{encode_with, encode_upper}
use Rattle.std.proofs.lemmas.List.{append-nil}

-- one more letter, of the same value
-- before the same text makes the same text
pub cons_at : (t : List ℕ) (a b : ℕ) (xs ys : List ℕ) → a ≡ b → xs ≡ ys → slice_index t a ∷ xs ≡ slice_index t b ∷ ys
cons_at t a b xs ys e es = rw (e, es) refl

-- the letters of bytes in groups of three
-- are those of all their bits, six bits each
pub encode_symbols-letters : (t m : List ℕ) → AreBytes m → encode_symbols t m ≡ letters t 6 (letter_count 6 (length m)) (bits_of m)
unfolding encode_symbols bits number letters
encode_symbols-letters t [] h = refl
encode_symbols-letters t (a ∷ []) h =
    let fa : a < 256 = h 0 in
    cons_at t _ _ _ _ (omega arith) (cons_at t _ _ _ _ (omega arith) refl)
encode_symbols-letters t (a ∷ b ∷ []) h =
    let fa : a < 256 = h 0 in
    let fb : b < 256 = h 1 in
    cons_at t _ _ _ _ (omega arith) (cons_at t _ _ _ _ (omega arith) (cons_at t _ _ _ _ (omega arith) refl))
encode_symbols-letters t (a ∷ b ∷ c ∷ rest) h =
    let fa : a < 256 = h 0 in
    let fb : b < 256 = h 1 in
    let fc : c < 256 = h 2 in
    let n : letter_count 6 (length (a ∷ b ∷ c ∷ rest)) ≡ suc (suc (suc (suc (letter_count 6 (length rest))))) = omega arith in
    let ih = encode_symbols-letters t rest (λ i. h (suc (suc (suc i)))) in
    rw n (cons_at t _ _ _ _ (omega arith) (cons_at t _ _ _ _ (omega arith)
    (cons_at t _ _ _ _ (omega arith) (cons_at t _ _ _ _ (omega arith) ih))))

-- the letters of bytes one at a time
-- are those of all their bits, four bits each
pub encode_with-letters : (t m : List ℕ) → AreBytes m → encode_with t m ≡ letters t 4 (letter_count 4 (length m)) (bits_of m)
unfolding encode_with bits number letters
encode_with-letters t [] h = refl
encode_with-letters t (a ∷ rest) h =
    let fa : a < 256 = h 0 in
    let n : letter_count 4 (length (a ∷ rest)) ≡ suc (suc (letter_count 4 (length rest))) = omega arith in
    let ih = encode_with-letters t rest (λ i. h (suc i)) in
    rw n (cons_at t _ _ _ _ (omega arith) (cons_at t _ _ _ _ (omega arith) ih))

-- what `base64` encodes is the code
pub code-base64 : (m : List ℕ) → AreBytes m → encode_of standard m ≡ code Base64 m
code-base64 m h =
    let n : padding_len (length m) ≡ padding_count 4 (letter_count 6 (length m)) = omega arith in
    rw (encode_symbols-letters (alphabet Base64) m h, n) refl

-- and so is what it encodes with the alphabet for URLs
pub code-base64url : (m : List ℕ) → AreBytes m → encode_of url_safe m ≡ code Base64Url m
code-base64url m h =
    let n : padding_len (length m) ≡ padding_count 4 (letter_count 6 (length m)) = omega arith in
    rw (encode_symbols-letters (alphabet Base64Url) m h, n) refl

-- what `hex` encodes is the code
pub code-base16 : (m : List ℕ) → AreBytes m → encode_upper m ≡ code Base16 m
code-base16 m h =
    let n : padding_count 2 (letter_count 4 (length m)) ≡ 0 = omega arith in
    rw (encode_with-letters (alphabet Base16) m h, n, append-nil)
