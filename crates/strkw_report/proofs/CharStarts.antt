-- A text has as many characters as bytes that begin one.
use Rattle.std.proofs.Common.{◌≡◌, ℕ, ◌<◌, ◌≤◌, ◌+◌, ◌/◌, ◌%◌, List, [], ◌∷◌, length, Bool, true, false, nat_lt, refl, sym, ap, ◌∙◌, arith, cond}
use Rattle.std.specs.List.{count_by}
use Rattle.std.specs.Str.{encode_utf8_all, IsUtf8, chars}
use Rattle.std.specs.Char.{encode_utf8}
use Rattle.std.specs.Fmt.{is_char_start}
use Rattle.std.proofs.lemmas.List.Sums.{sum_by-append}
use Rattle.std.proofs.lemmas.Bool.Decides.{nat_tests}
use Rattle.std.proofs.lemmas.Str.{encodes-chars}

-- an ASCII byte begins a character
starts_ascii : (b : ℕ) → b < 128 → is_char_start b ≡ true
starts_ascii b h = grind (arith, nat_tests)

-- a byte from 192 on begins a character
starts : (b : ℕ) → 192 ≤ b → is_char_start b ≡ true
starts b h = grind (arith, nat_tests)

-- a byte that goes on with a character begins none
goes_on : (n : ℕ) → is_char_start (128 + n % 64) ≡ false
goes_on n = grind (arith, nat_tests)

-- exactly one byte of the encoding of a character begins a character
-- by the length of its encoding
count_by-encode : (c : ℕ) (one two three : Bool) → nat_lt c 128 ≡ one → nat_lt c 2048 ≡ two → nat_lt c 65536 ≡ three
    → count_by is_char_start (encode_utf8 c) ≡ 1
unfolding encode_utf8
count_by-encode c true two three e1 e2 e3 = rw (e1, starts_ascii c (grind (arith, nat_tests))) refl
count_by-encode c false true three e1 e2 e3 = rw (e1, e2, starts (192 + c / 64) (omega arith), goes_on c) refl
count_by-encode c false false true e1 e2 e3 =
    rw (e1, e2, e3, starts (224 + c / 4096) (omega arith), goes_on (c / 64), goes_on c) refl
count_by-encode c false false false e1 e2 e3 =
    rw (e1, e2, e3, starts (240 + c / 262144) (omega arith), goes_on (c / 4096), goes_on (c / 64), goes_on c) refl

-- the encoding of characters has as many bytes that begin one as there are characters
count_by-encodes : (cs : List ℕ) → count_by is_char_start (encode_utf8_all cs) ≡ length cs
count_by-encodes [] = refl
count_by-encodes (c ∷ cs) =
    sum_by-append (λ b. cond (is_char_start b) 1 0) (encode_utf8 c) (encode_utf8_all cs)
    ∙ rw (count_by-encode c _ _ _ refl refl refl, count_by-encodes cs) (omega arith)

-- a text in UTF-8 has as many bytes that begin a character as it has characters
pub count_by-chars : (bs : List ℕ) → IsUtf8 bs → count_by is_char_start bs ≡ length (chars bs)
count_by-chars bs u = ap (count_by is_char_start) (sym (encodes-chars bs u)) ∙ count_by-encodes (chars bs)
