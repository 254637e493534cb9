-- The classes are those that the standards write.
use Rattle.std.proofs.Common.{◌≡◌, ℕ, ◌≤◌, Bool, true, false, ◌||◌, ◌&&◌, ◌==◌, IsTrue, List, [], ◌∷◌, refl, sym, ◌∙◌, arith, nat_le, inl, inr}
use Rattle.std.specs.Char.{is_ascii_alphabetic, is_ascii_digit, is_ascii_hexdigit}
use Rattle.std.proofs.Math.Bool.{or_assoc, or-false}
use Rattle.std.proofs.lemmas.Bool.{agree_below, agree_below_at, cases_lt, le-leb, leb-true, and_parts, and_cases, or_right, or_left, or_cases}
use Rattle.std.specs.List.{AllByRecursion}
use Rattle.std.proofs.lemmas.Bool.Decides.{nat_tests}
use Rattle.strkw_text.specs.Characters.{is_from_to}
use Rattle.strkw_uri.specs.Characters.{is_unreserved, is_sub_delim, is_ucschar, is_iprivate}
use Rattle.strkw_uri.specs.Template.{is_literal_char, is_operator}
use Rattle.strkw_uri.specs.Pointer.{is_unescaped}
use Rattle.strkw_uri.specs.AsWritten.{alpha_as_written, digit_as_written, hexdig_as_written, unreserved_as_written, gen_delims_as_written}
use Rattle.strkw_uri.specs.AsWritten.{sub_delims_as_written, is_within, ucschar_as_written, iprivate_as_written, ascii_literals_as_written, literals_as_written}
use Rattle.strkw_uri.specs.AsWritten.{operator_as_written, unescaped_as_written}

-- two tests that agree on ASCII, and that past it answer one thing
-- agree on each character
agree : (f g : ℕ → Bool) (answer : Bool) → agree_below f g 128 ≡ true → ((c : ℕ) → 128 ≤ c → f c ≡ answer) → ((c : ℕ) → 128 ≤ c → g c ≡ answer) → (c : ℕ)
    → f c ≡ g c
agree f g answer below past_f past_g c = elim (cases_lt c 128) [ inl l ↦ agree_below_at f g 128 c below l | inr h ↦ past_f c h ∙ sym (past_g c h) ]

-- std's ASCII letters are those of ALPHA as RFC 5234 writes it
pub alpha : (c : ℕ) → is_ascii_alphabetic c ≡ alpha_as_written c
alpha = agree is_ascii_alphabetic alpha_as_written false refl (λ c h. grind (arith, nat_tests)) (λ c h. grind (arith, nat_tests))

-- std's ASCII digits are those of DIGIT as RFC 5234 writes it
pub digit : (c : ℕ) → is_ascii_digit c ≡ digit_as_written c
digit = agree is_ascii_digit digit_as_written false refl (λ c h. grind (arith, nat_tests)) (λ c h. grind (arith, nat_tests))

-- std's hexadecimal digits are those of HEXDIG as RFC 5234 writes it
pub hexdig : (c : ℕ) → is_ascii_hexdigit c ≡ hexdig_as_written c
hexdig = agree is_ascii_hexdigit hexdig_as_written false refl (λ c h. grind (arith, nat_tests)) (λ c h. grind (arith, nat_tests))

-- the unreserved characters are those that RFC 3986 writes
pub unreserved : (c : ℕ) → is_unreserved c ≡ unreserved_as_written c
unreserved = agree is_unreserved unreserved_as_written false refl (λ c h. grind (arith, nat_tests)) (λ c h. grind (arith, nat_tests))

-- the sub-delims are those that RFC 3986 writes
pub sub_delims : (c : ℕ) → is_sub_delim c ≡ sub_delims_as_written c
sub_delims = agree is_sub_delim sub_delims_as_written false refl (λ c h. grind (arith, nat_tests)) (λ c h. grind (arith, nat_tests))

-- the operators of a template are those that RFC 6570 writes
pub operators : (c : ℕ) → is_operator c ≡ operator_as_written c
operators = agree is_operator operator_as_written false refl (λ c h. grind (arith, nat_tests)) (λ c h. grind (arith, nat_tests))

-- the ucschar characters are those of the ranges that RFC 3987 writes
pub ucschar : (c : ℕ) → is_ucschar c ≡ is_within ucschar_as_written c
ucschar c = simp (or_assoc, or-false)

-- the iprivate characters are those of the ranges that RFC 3987 writes
pub iprivate : (c : ℕ) → is_iprivate c ≡ is_within iprivate_as_written c
iprivate c = simp (or_assoc, or-false)

-- literal characters are those of ASCII that RFC 6570 writes, the apostrophe and all past ASCII
pub literals : (c : ℕ) → is_literal_char c ≡ (ascii_literals_as_written c || c == 39 || nat_le 0x80 c)
literals = agree is_literal_char (λ c. ascii_literals_as_written c || c == 39 || nat_le 0x80 c) true refl (λ c h. grind (arith, nat_tests))
    (λ c h. or_right _ _ (le-leb 128 c h))

-- up to 0x10FFFF the unescaped characters are those that RFC 6901 writes
pub unescaped : (c : ℕ) → c ≤ 0x10FFFF → is_unescaped c ≡ unescaped_as_written c
unescaped c l = elim (cases_lt c 128) [
  | inl h ↦ agree_below_at is_unescaped unescaped_as_written 128 c refl h
  | inr h ↦ grind (arith, nat_tests)
]

-- a reserved character is not unreserved: tested on ASCII, past which there is none
pub reserved : (c : ℕ) → IsTrue (gen_delims_as_written c || sub_delims_as_written c) → is_unreserved c ≡ false
reserved c h = elim (cases_lt c 128) [
  | inl l ↦ grind (arith, agree_below_at (λ d. (gen_delims_as_written d || sub_delims_as_written d) && is_unreserved d) (λ d. false) 128 c refl l, and_cases, h)
  | inr g ↦ grind (arith, nat_tests)
]

-- a character of a range that begins past ASCII is past ASCII
past_ascii : (low high c : ℕ) → 128 ≤ low → IsTrue (is_from_to low high c) → 128 ≤ c
past_ascii low high c g h = omega (arith, leb-true low c (and_parts (nat_le low c) (nat_le c high) h).0)

-- and so is one of several such ranges
written_past_ascii : (ranges : List (ℕ × ℕ)) → AllByRecursion (λ range. 128 ≤ range.0) ranges → (c : ℕ) → IsTrue (is_within ranges c) → 128 ≤ c
written_past_ascii [] a c h = absurd cc
written_past_ascii (range ∷ ranges) a c h = elim (or_cases (is_from_to range.0 range.1 c) (is_within ranges c) h) [
  | inl e ↦ past_ascii range.0 range.1 c a.0 e
  | inr e ↦ written_past_ascii ranges a.1 c e
]

-- a ucschar character is past ASCII
ucschar_past_ascii : (c : ℕ) → IsTrue (is_ucschar c) → 128 ≤ c
ucschar_past_ascii c h =
    written_past_ascii ucschar_as_written (
      omega arith,
      (
        omega arith,
        (
          omega arith,
          (
            omega arith,
            (
              omega arith,
              (
                omega arith,
                (
                  omega arith,
                  (
                    omega arith,
                    (
                      omega arith,
                      (omega arith, (omega arith, (omega arith, (omega arith, (omega arith, (omega arith, (omega arith, (omega arith, tt)))))))),
                    ),
                  ),
                ),
              ),
            ),
          ),
        ),
      ),
    )
    c (sym (ucschar c) ∙ h)

-- an iprivate character is past ASCII
iprivate_past_ascii : (c : ℕ) → IsTrue (is_iprivate c) → 128 ≤ c
iprivate_past_ascii c h = written_past_ascii iprivate_as_written (omega arith, (omega arith, (omega arith, tt))) c (sym (iprivate c) ∙ h)

-- what RFC 6570 writes as a literal character is one here
pub wider_literals : (c : ℕ) → IsTrue (literals_as_written c) → IsTrue (is_literal_char c)
wider_literals c h =
    let a = ascii_literals_as_written c in
    let past : 128 ≤ c → IsTrue (is_literal_char c) = λ g. literals c ∙ or_right (a || c == 39) (nat_le 0x80 c) (le-leb 128 c g) in
    elim (or_cases (a || is_ucschar c) (is_iprivate c) h) [
      | inl e ↦ elim (or_cases a (is_ucschar c) e) [
        | inl w ↦ literals c ∙ or_left (a || c == 39) (nat_le 0x80 c) (or_left a (c == 39) w)
        | inr u ↦ past (ucschar_past_ascii c u)
      ]
      | inr p ↦ past (iprivate_past_ascii c p)
    ]
