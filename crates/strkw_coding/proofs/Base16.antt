-- What `hex` decodes is the code up to the case of letters.
use Rattle.std.proofs.Common.{◌≡◌, ℕ, suc, ◌+◌, ◌-◌, ◌*◌, ◌/◌, ◌%◌, ◌<◌, ◌≤◌, ◌==◌, ◌⊎◌, ◌↔◌, unwrap_or, nat_lt, Bool, true, false, cond, List, [], ◌∷◌, map}
use Rattle.std.proofs.Common.{length, slice_index, Option, Some, None, Result, Ok, Err, refl, sym, ap, ◌∙◌, inl, inr, arith}
use Rattle.std.specs.Char.{is_ascii_hexdigit, to_ascii_uppercase}
use Rattle.std.specs.Prelude.{IsTrue}
use Rattle.std.specs.List.{list_all}
use Rattle.std.proofs.lemmas.List.Sums.{AllPass-from_list_all, list_all-from_AllPass}
use Rattle.std.proofs.lemmas.List.{length-map}
use Rattle.std.proofs.lemmas.Bool.{cases_lt, eqb-true, false≢true}
use Rattle.hex.specs.Hex.{decode_of, decode_pairs, digit_or_error, hex_digit_value, is_hex_digit, encode_upper, encode_with, pair_value, upper_digits, value_at}
use Rattle.hex.specs.Hex.{◌>>=◌}
use Rattle.hex.specs.declared.error.FromHexError.{FromHexError}
use Rattle.hex.proofs.HexLemmas.{decode_of-digits, decode_of-even, decode_of-ok, length-encode_with}
use Rattle.hex.proofs.Pairs.{decode_pairs-ok_pair, cons_byte}
use Rattle.strkw_coding.specs.Rfc4648.{AreBytes, IsEncoding}
use Rattle.strkw_coding.specs.declared.codec.Codec.TheVariants.{Base16}
use Rattle.strkw_coding.proofs.Encoders.{code-base16}
use Rattle.strkw_coding.proofs.Passes.{passes_below-at}

-- the digit of a value
-- in upper case it is 48 more than a value below 10, and 55 more than another
upper_digit : (d : ℕ) → d < 16 → slice_index upper_digits d ≡ cond (nat_lt d 10) (d + 48) (d + 55)
upper_digit d lt = eqb-true _ _ (passes_below-at (λ k. slice_index upper_digits k == cond (nat_lt k 10) (k + 48) (k + 55)) 16 d refl lt)

-- a digit's value is below 16
hex_digit_value-small : (c v : ℕ) → hex_digit_value c ≡ Some v → v < 16
hex_digit_value-small c v h = grind (arith)

-- which digit has a value
-- with a value below 10 it is 48 more, and with another it is 55 or 87 more
digit_is : (c v : ℕ) → hex_digit_value c ≡ Some v → ((c ≡ v + 48) × (v < 10)) ⊎ (((c ≡ v + 55) ⊎ (c ≡ v + 87)) × (10 ≤ v) × (v < 16))
digit_is c v h = grind (arith)

-- a decimal digit in upper case is the digit of its value
upper_low : (v : ℕ) → v < 10 → to_ascii_uppercase (v + 48) ≡ slice_index upper_digits v
upper_low v lt = eqb-true _ _ (passes_below-at (λ k. to_ascii_uppercase (k + 48) == slice_index upper_digits k) 10 v refl lt)

-- and so is a capital letter from A to F
upper_upper : (v : ℕ) → v < 6 → to_ascii_uppercase (v + 65) ≡ slice_index upper_digits (v + 10)
upper_upper v lt = eqb-true _ _ (passes_below-at (λ k. to_ascii_uppercase (k + 65) == slice_index upper_digits (k + 10)) 6 v refl lt)

-- and a small letter from a to f
upper_lower : (v : ℕ) → v < 6 → to_ascii_uppercase (v + 97) ≡ slice_index upper_digits (v + 10)
upper_lower v lt = eqb-true _ _ (passes_below-at (λ k. to_ascii_uppercase (k + 97) == slice_index upper_digits (k + 10)) 6 v refl lt)

-- a digit that reads is the digit of its value, in upper case
digit_upper : (c v : ℕ) → hex_digit_value c ≡ Some v → to_ascii_uppercase c ≡ slice_index upper_digits v
digit_upper c v h = elim (digit_is c v h) [
  | inl low ↦ rw low.0 (upper_low v low.1)
  | inr high ↦
      let back : v - 10 + 10 ≡ v = omega arith in
      let fits : v - 10 < 6 = omega arith in
      elim high.0 [
        | inl upper ↦
            let at : c ≡ v - 10 + 65 = omega arith in
            rw at (upper_upper (v - 10) fits ∙ ap (slice_index upper_digits) back)
        | inr lower ↦
            let at : c ≡ v - 10 + 97 = omega arith in
            rw at (upper_lower (v - 10) fits ∙ ap (slice_index upper_digits) back)
      ]
]

-- what becomes x in upper case
-- it is x itself, or the small letter that is 32 more
uppercase_is : (c x : ℕ) → to_ascii_uppercase c ≡ x → (c ≡ x) ⊎ ((c ≡ x + 32) × (97 ≤ c) × (c < 123))
uppercase_is c x h = grind (arith)

-- what the test shows of one place
-- an optional value that is below 16, where none counts as 99, is that value
some_from_unwrap : (o : Option ℕ) (d : ℕ) → d < 16 → unwrap_or o 99 ≡ d → o ≡ Some d
some_from_unwrap (Some v) d lt e = ap Some e
some_from_unwrap None d lt e = absurd (omega arith)

-- a decimal digit reads as its value
value_low : (v : ℕ) → v < 10 → hex_digit_value (v + 48) ≡ Some v
value_low v lt = some_from_unwrap _ v (omega arith) (eqb-true _ _ (passes_below-at (λ k. unwrap_or (hex_digit_value (k + 48)) 99 == k) 10 v refl lt))

-- and so does a capital letter from A to F
value_upper : (v : ℕ) → v < 6 → hex_digit_value (v + 65) ≡ Some (v + 10)
value_upper v lt = some_from_unwrap _ (v + 10) (omega arith)
    (eqb-true _ _ (passes_below-at (λ k. unwrap_or (hex_digit_value (k + 65)) 99 == k + 10) 6 v refl lt))

-- and a small letter from a to f
value_lower : (v : ℕ) → v < 6 → hex_digit_value (v + 97) ≡ Some (v + 10)
value_lower v lt = some_from_unwrap _ (v + 10) (omega arith)
    (eqb-true _ _ (passes_below-at (λ k. unwrap_or (hex_digit_value (k + 97)) 99 == k + 10) 6 v refl lt))

-- the digit of a value, in either case, reads as that value
upper_reads : (c v : ℕ) → v < 16 → to_ascii_uppercase c ≡ slice_index upper_digits v → hex_digit_value c ≡ Some v
upper_reads c v small h = elim (cases_lt v 10) [
  | inl low ↦
      let e : to_ascii_uppercase c ≡ v + 48 = rw (upper_digit v small) at h ∙ grind (arith) in
      elim (uppercase_is c (v + 48) e) [
        | inl same ↦ rw same (value_low v low)
        | inr other ↦ absurd (omega arith)
      ]
  | inr high ↦
      let k : ℕ = v - 10 in
      let fits : k < 6 = omega arith in
      let back : k + 10 ≡ v = omega arith in
      let e : to_ascii_uppercase c ≡ v + 55 = rw (upper_digit v small) at h ∙ grind (arith) in
      elim (uppercase_is c (v + 55) e) [
        | inl same ↦
            let at : c ≡ k + 65 = omega arith in
            rw at (value_upper k fits ∙ ap Some back)
        | inr other ↦
            let at : c ≡ k + 97 = omega arith in
            rw at (value_lower k fits ∙ ap Some back)
      ]
]

-- what an `Ok` after `>>=` shows
-- the first answer was `Ok`, and so was the second, with that value
bind_ok : {A B : Type 0} (r : Result A FromHexError) (f : A → Result B FromHexError) (y : B)
    → (r >>= f) ≡ Ok y → (x : A) × (r ≡ Ok x) × (f x ≡ Ok y)
bind_ok (Ok x) f y h = (x, refl, h)
bind_ok (Err e) f y h = cc h

-- the value of a digit that read
-- is the one that the digit has
digit_read : (c i : ℕ) (o : Option ℕ) (v : ℕ) → digit_or_error c i o ≡ Ok v → o ≡ Some v
digit_read c i (Some w) v h = cc h
digit_read c i None v h = cc h

-- pairs that decode are the code of their bytes, in upper case
pub decode_pairs-code : (i : ℕ) (s bytes : List ℕ) → decode_pairs i s ≡ Ok bytes → map to_ascii_uppercase s ≡ encode_upper bytes
unfolding decode_pairs encode_with
decode_pairs-code i [] bytes h =
    let e : [] ≡ bytes = cc h in
    rw (← e) refl
decode_pairs-code i (a ∷ []) bytes h = cc h
decode_pairs-code i (a ∷ b ∷ rest) bytes h =
    let p0 = bind_ok (pair_value a b i) _ bytes h in
    let p1 = bind_ok (value_at a i) _ p0.0 p0.1 in
    let p2 = bind_ok (value_at b (i + 1)) _ p0.0 p1.2 in
    let p3 = bind_ok (decode_pairs (i + 2) rest) _ bytes p0.2 in
    let ih = decode_pairs-code (i + 2) rest p3.0 p3.1 in
    let e : p0.0 ∷ p3.0 ≡ bytes = cc p3.2 in
    let da = digit_read a i (hex_digit_value a) p1.0 p1.1 in
    let db = digit_read b (i + 1) (hex_digit_value b) p2.0 p2.1 in
    let va = hex_digit_value-small a p1.0 da in
    let vb = hex_digit_value-small b p2.0 db in
    let byte : p1.0 * 16 + p2.0 ≡ p0.0 = cc p2.2 in
    let high : p0.0 / 16 ≡ p1.0 = omega arith in
    let low : p0.0 % 16 ≡ p2.0 = omega arith in
    rw (← e, high, low, digit_upper a p1.0 da, digit_upper b p2.0 db, ih) refl

-- the code of some bytes, in either case, decodes to them
pub decode_pairs-encoding : (i : ℕ) (s bytes : List ℕ) → AreBytes bytes → map to_ascii_uppercase s ≡ encode_upper bytes → decode_pairs i s ≡ Ok bytes
unfolding decode_pairs encode_with
decode_pairs-encoding i [] [] h e = refl
decode_pairs-encoding i [] (v ∷ bytes) h e = cc e
decode_pairs-encoding i (a ∷ []) [] h e = cc e
decode_pairs-encoding i (a ∷ []) (v ∷ bytes) h e = cc e
decode_pairs-encoding i (a ∷ b ∷ rest) [] h e = cc e
decode_pairs-encoding i (a ∷ b ∷ rest) (v ∷ bytes) h e =
    let fits : v < 256 = h 0 in
    let ea : to_ascii_uppercase a ≡ slice_index upper_digits (v / 16) = cc e in
    let eb : to_ascii_uppercase b ≡ slice_index upper_digits (v % 16) = cc e in
    let es : map to_ascii_uppercase rest ≡ encode_upper bytes = cc e in
    let da = upper_reads a (v / 16) (omega arith) ea in
    let db = upper_reads b (v % 16) (omega arith) eb in
    let ih = decode_pairs-encoding (i + 2) rest bytes (λ k. h (suc k)) es in
    let whole : v / 16 * 16 + v % 16 ≡ v = omega arith in
    let pair : pair_value a b i ≡ Ok v = rw (da, db, whole) refl in
    decode_pairs-ok_pair i a b v rest pair ∙ ap (cons_byte v) ih

-- what decodes is the code of its bytes, in upper case
pub decode_of-code : (s bytes : List ℕ) → decode_of s ≡ Ok bytes → AreBytes bytes × (map to_ascii_uppercase s ≡ encode_upper bytes)
decode_of-code s bytes h =
    let ok = decode_of-ok s bytes h in
    (ok.3, decode_pairs-code 0 s bytes (sym (decode_of-even s ok.0) ∙ h))

-- the code of some bytes, in either case, decodes to them
pub decode_of-encoding : (s bytes : List ℕ) → AreBytes bytes → map to_ascii_uppercase s ≡ encode_upper bytes → decode_of s ≡ Ok bytes
decode_of-encoding s bytes h e =
    let same : length s ≡ length (encode_upper bytes) = sym (length-map s to_ascii_uppercase) ∙ ap length e in
    let even : length s % 2 ≡ 0 = omega (arith, same, length-encode_with upper_digits bytes) in
    decode_of-even s even ∙ decode_pairs-encoding 0 s bytes h e

-- std's test of a digit is that of `hex`
digit_test : (c : ℕ) → is_ascii_hexdigit c ≡ is_hex_digit c
digit_test c = grind (arith)

-- and so is that of all the characters of a text
digits_test : (s : List ℕ) → list_all is_ascii_hexdigit s ≡ list_all is_hex_digit s
digits_test [] = refl
digits_test (c ∷ s) = rw (digit_test c, digits_test s) refl

-- an encoding is an even number of digits
pub encoding_base16 : (s : List ℕ) → IsEncoding Base16 s ↔ ((length s % 2 ≡ 0) × (list_all is_ascii_hexdigit s ≡ true))
encoding_base16 s = (
  λ (b, e).
      let ok = decode_of-ok s b (decode_of-encoding s b e.are_bytes (e.is_code ∙ sym (code-base16 b e.are_bytes))) in
      (ok.0, digits_test s ∙ list_all-from_AllPass is_hex_digit s ok.1),
  λ (even, digits).
      let r = decode_of-digits s even (AllPass-from_list_all is_hex_digit s (sym (digits_test s) ∙ digits)) in
      let is = decode_of-code s r.0 r.1 in
      (r.0, record { are_bytes = is.0; is_code = is.1 ∙ code-base16 r.0 is.0 }),
)

-- the test of an even number of digits, once their number is even
-- the test of the digits answers whether the text is an encoding
pub digits_answer : (s : List ℕ) (answer : Bool) → length s % 2 ≡ 0 → answer ≡ list_all is_ascii_hexdigit s → IsTrue answer ↔ IsEncoding Base16 s
digits_answer s true even is = (λ _. (encoding_base16 s).1 (even, sym is), λ _. refl)
digits_answer s false even is = (λ t. absurd (false≢true t), λ e. cc (is ∙ ((encoding_base16 s).0 e).1))

-- and once it is odd
-- the test for an even length answers so too, as both are false
pub odd_answer : (s : List ℕ) → (length s % 2 ≡ 0 → ⊥) → IsTrue (length s % 2 == 0) ↔ IsEncoding Base16 s
odd_answer s odd = (λ t. absurd (odd (eqb-true _ _ t)), λ e. absurd (odd ((encoding_base16 s).0 e).0))
