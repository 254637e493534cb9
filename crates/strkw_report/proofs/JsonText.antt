-- JSON strings: bytes that stand for themselves, and the escapes of characters.
use Rattle.std.proofs.Common.{◌≡◌, ◌≢◌, ℕ, ◌+◌, ◌/◌, ◌%◌, ◌<◌, ◌≤◌, inl, inr, Bool, true, false, nat_lt, List, [], ◌∷◌, ◌++◌, length, get_or, take, codes, lit<}
use Rattle.std.proofs.Common.{refl, ap, ◌∙◌, sym, arith}
use Rattle.std.specs.Fmt.{digit_glyph}
use Rattle.std.specs.Str.{IsAscii, encode_utf8_all}
use Rattle.std.specs.Char.{encode_utf8, digit_char}
use Rattle.std.proofs.lemmas.Bool.{cases_lt}
use Rattle.std.proofs.lemmas.Str.{encode_ascii}
use Rattle.strkw_text.proofs.AsciiForms.{IsAscii-from_each}
use Rattle.strkw_text.proofs.Bytewise.{IsAsciiRewriting, flat_map-encode_past, flat_map-encode_within, flat_map-encodes_more}
use Rattle.std.proofs.lemmas.Bool.Decides.{nat_tests}
use Rattle.std.proofs.lemmas.List.{take_more}
use Rattle.std.proofs.lemmas.List.Concat.{flat_map-append}
use Rattle.json.specs.Print.{escape, escape_byte, escape_letter}

-- a byte from 32 on that is neither a quotation mark nor a backslash stands for itself
pub escape_plain : (b : ℕ) → 32 ≤ b → b ≢ 34 → b ≢ 92 → escape_byte b ≡ b ∷ []
unfolding escape_byte
escape_plain b low not_quote not_backslash = grind (arith, nat_tests)

-- one byte more, which stands for itself
pub plain_more : (text : List ℕ) (i : ℕ) → i < length text → escape (take i text) ≡ take i text → escape_byte (get_or text i 0) ≡ get_or text i 0 ∷ []
    → escape (take (i + 1) text) ≡ take (i + 1) text
plain_more text i within before one =
    let more = take_more text i 0 within in
    ap escape more ∙ flat_map-append escape_byte (take i text) (get_or text i 0 ∷ []) ∙ rw (before, one) (sym more)

-- ---- characters

-- the letter of the short escape of an ASCII byte, or 0 where it has none, is ASCII
escape_letter-ascii : (b : ℕ) → b < 128 → escape_letter b < 128
escape_letter-ascii b h = grind (arith, nat_tests)

-- a digit in base 16 is ASCII
digit_char-ascii : (n : ℕ) → n < 16 → digit_char n < 128
digit_char-ascii n h = grind (arith, nat_tests)

-- what stands in a string for an ASCII byte is ASCII
-- by whether the byte has a short escape, and whether it is a control
escape_byte-ascii : (b : ℕ) (short control : Bool) → nat_lt 0 (escape_letter b) ≡ short → nat_lt b 32 ≡ control
    → b < 128 → IsAscii (escape_byte b)
unfolding escape_byte
escape_byte-ascii b true control e f h =
    rw e (IsAscii-from_each (92 ∷ escape_letter b ∷ []) (lit< tt, (escape_letter-ascii b h, tt)))
escape_byte-ascii b false true e f h =
    let high = digit_char-ascii (b / 16) (omega (arith, h)) in
    let low = digit_char-ascii (b % 16) (omega arith) in
    rw (e, f) (IsAscii-from_each (92 ∷ 117 ∷ 48 ∷ 48 ∷ digit_char (b / 16) ∷ digit_char (b % 16) ∷ [])
    (lit< tt, (lit< tt, (lit< tt, (lit< tt, (high, (low, tt)))))))
escape_byte-ascii b false false e f h = rw (e, f) (IsAscii-from_each (b ∷ []) (h, tt))

-- `escape_byte` changes ASCII alone, and into ASCII
escapes : IsAsciiRewriting escape_byte
escapes = record {
  past = λ b h.
      escape_plain b (omega (arith, h)) (λ e. absurd (omega (arith, h, e))) (λ e. absurd (omega (arith, h, e)));
  within = λ b h. escape_byte-ascii b _ _ refl refl h;
}

-- for a control that has no short escape stand `\u00` and the two digits of its number
escape_byte-control : (b : ℕ) → b < 32 → b ≢ 8 → b ≢ 12 → b ≢ 10 → b ≢ 13 → b ≢ 9
    → escape_byte b ≡ codes "\\u00" ++ digit_glyph false (b / 16) ∷ digit_glyph false (b % 16) ∷ []
unfolding escape_byte
escape_byte-control b low not_backspace not_feed not_line not_return not_tab = grind (arith, nat_tests)

-- a control that has no short escape is written by its number
pub escape-encode_control : (c : ℕ) → c < 32 → c ≢ 8 → c ≢ 12 → c ≢ 10 → c ≢ 13 → c ≢ 9
    → escape (encode_utf8 c) ≡ codes "\\u00" ++ digit_glyph false (c / 16) ∷ digit_glyph false (c % 16) ∷ []
escape-encode_control c low not_backspace not_feed not_line not_return not_tab =
    flat_map-encode_within escape_byte c (omega (arith, low))
    ∙ escape_byte-control c low not_backspace not_feed not_line not_return not_tab

-- a character that has no escape stays
pub escape-encode_plain : (c : ℕ) → 32 ≤ c → c ≢ 34 → c ≢ 92 → escape (encode_utf8 c) ≡ encode_utf8 c
escape-encode_plain c low not_quote not_backslash = elim (cases_lt c 128) [
  | inl ascii ↦
      flat_map-encode_within escape_byte c ascii ∙ escape_plain c low not_quote not_backslash
      ∙ sym (encode_ascii c ascii)
  | inr past ↦ flat_map-encode_past escape_byte escapes c past
]

-- one more character
pub escape-encodes_more : (cs : List ℕ) (c : ℕ)
    → escape (encode_utf8_all (cs ++ c ∷ [])) ≡ escape (encode_utf8_all cs) ++ escape (encode_utf8 c)
escape-encodes_more cs c = flat_map-encodes_more escape_byte cs c
