-- `escaped_segment` over bytes and over characters, as a rewriting of single ASCII characters.
use Rattle.std.proofs.Common.{◌≡◌, ◌≢◌, ℕ, ◌<◌, ◌≤◌, ◌⊎◌, inl, inr, List, [], ◌∷◌, ◌++◌, refl, eqb, Bool, true, false, arith, lit<, ◌∙◌, codes}
use Rattle.std.specs.Str.{IsAscii, encode_utf8_all}
use Rattle.std.specs.Char.{encode_utf8}
use Rattle.std.proofs.lemmas.Bool.{cases_lt}
use Rattle.std.proofs.lemmas.Bool.Decides.{nat_tests}
use Rattle.std.proofs.lemmas.Str.{encode_ascii}
use Rattle.strkw_text.proofs.AsciiForms.{IsAscii-from_each}
use Rattle.strkw_text.proofs.Bytewise.{IsAsciiRewriting, encodes-flat_map, flat_map-encode_past, flat_map-encode_within, flat_map-encodes_more}
use Rattle.strkw_report.specs.Paths.{escaped_segment, escaped_char}

-- a byte past ASCII stands for itself
escaped_char-past : (b : ℕ) → 128 ≤ b → escaped_char b ≡ b ∷ []
escaped_char-past b h = grind (arith, nat_tests)

-- what is written for an ASCII byte is ASCII
escaped_char-within : (b : ℕ) (t s : Bool) → eqb b 126 ≡ t → eqb b 47 ≡ s → b < 128 → IsAscii (escaped_char b)
escaped_char-within b true s e f h = rw e (IsAscii-from_each (codes "~0") (lit< tt, (lit< tt, tt)))
escaped_char-within b false true e f h = rw (e, f) (IsAscii-from_each (codes "~1") (lit< tt, (lit< tt, tt)))
escaped_char-within b false false e f h = rw (e, f) (IsAscii-from_each (b ∷ []) (h, tt))

-- `escaped_char` changes ASCII alone, and into ASCII
escapes : IsAsciiRewriting escaped_char
escapes = record { past = escaped_char-past; within = λ b h. escaped_char-within b _ _ refl refl h }

-- to escape characters and then encode them is to encode them and then escape the bytes
pub encodes-escaped_segment : (cs : List ℕ) → encode_utf8_all (escaped_segment cs) ≡ escaped_segment (encode_utf8_all cs)
encodes-escaped_segment cs = encodes-flat_map escaped_char escapes cs

-- what is neither `~` nor `/` stands for itself
escaped_char-plain : (c : ℕ) → c ≢ 126 → c ≢ 47 → escaped_char c ≡ c ∷ []
escaped_char-plain c not_tilde not_slash = grind (arith, nat_tests)

-- the encoding of a character that is neither `~` nor `/` stays, in ASCII or past it
escaped_segment-by_cases : (c : ℕ) → c ≢ 126 → c ≢ 47 → (c < 128) ⊎ (128 ≤ c) → escaped_segment (encode_utf8 c) ≡ encode_utf8 c
escaped_segment-by_cases c t s (inl h) = flat_map-encode_within escaped_char c h ∙ rw (escaped_char-plain c t s, encode_ascii c h) refl
escaped_segment-by_cases c t s (inr h) = flat_map-encode_past escaped_char escapes c h

-- a character that is neither `~` nor `/` stays
pub escaped_segment-encode : (c : ℕ) → c ≢ 126 → c ≢ 47 → escaped_segment (encode_utf8 c) ≡ encode_utf8 c
escaped_segment-encode c t s = escaped_segment-by_cases c t s (cases_lt c 128)

-- one more character
pub escaped_more : (cs : List ℕ) (c : ℕ) → escaped_segment (encode_utf8_all (cs ++ c ∷ [])) ≡ escaped_segment (encode_utf8_all cs)
    ++ escaped_segment (encode_utf8 c)
escaped_more cs c = flat_map-encodes_more escaped_char cs c
