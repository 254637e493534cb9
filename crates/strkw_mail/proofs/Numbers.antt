-- Numbers of an address, by their digits.
use Rattle.std.proofs.Common.{◌≡◌, ◌↔◌, ℕ, ◌+◌, ◌-◌, ◌*◌, ◌<◌, ◌≤◌, true, List, [], ◌∷◌, length, get_or, take, arith}
use Rattle.std.specs.Char.{digit_value, is_ascii_digit, is_ascii_hexdigit}
use Rattle.std.proofs.lemmas.Bool.Decides.{nat_tests}
use Rattle.std.proofs.lemmas.Int.Digits.{digits_value_more, digits_more}
use Rattle.std.proofs.lemmas.List.{length-take-le}
use Rattle.std.specs.List.{list_all}
use Rattle.std.specs.Str.Parse.{AllDigits, digits_value}
use Rattle.std.proofs.lemmas.List.Elements.{recursion_from_All, All-from_recursion}
use Rattle.std.proofs.lemmas.List.Sums.{AllPass-from_list_all, list_all-from_AllPass}
use Rattle.strkw_text.proofs.Classes.{repeat_class, times_class, digits_all}
use Rattle.strkw_mail.specs.AddressLiteral.{Snum, Ipv6Hex}

-- an Snum is one to three decimal digits of a value up to 255
pub snum_digits : (text : List ℕ) → Snum text ↔ (AllDigits 10 text × (1 ≤ length text) × (length text ≤ 3) × (digits_value 10 text ≤ 255))
snum_digits text =
    let t = times_class is_ascii_digit 1 3 text in
    let r = repeat_class is_ascii_digit text in
    let d = digits_all text in (
      λ s. let a = t.0 s.digits in (d.0 (r.1 a.0), a.1, a.2, s.fits),
      λ h. record { digits = t.1 (r.0 (d.1 h.0), h.1, h.2); fits = h.3 },
    )

-- a group is one to four characters that pass the test of hexadecimal digits
pub hex_tested : (text : List ℕ) → Ipv6Hex text ↔ ((list_all is_ascii_hexdigit text ≡ true) × (1 ≤ length text) × (length text ≤ 4))
hex_tested text =
    let t = times_class is_ascii_hexdigit 1 4 text in (
      λ h. let a = t.0 h in (list_all-from_AllPass is_ascii_hexdigit text (All-from_recursion (λ x. is_ascii_hexdigit x ≡ true) text a.0), a.1, a.2),
      λ h. t.1 (recursion_from_All (λ x. is_ascii_hexdigit x ≡ true) text (AllPass-from_list_all is_ascii_hexdigit text h.0), h.1, h.2),
    )

-- at most three digits have a value below 1000
pub few_digits : (text : List ℕ) → AllDigits 10 text → length text ≤ 3 → digits_value 10 text < 1000
few_digits [] d few = omega arith
few_digits (a ∷ []) d few = omega (arith, d.0)
few_digits (a ∷ b ∷ []) d few = omega (arith, d.0, d.1.0)
few_digits (a ∷ b ∷ c ∷ []) d few = omega (arith, d.0, d.1.0, d.1.1.0)
few_digits (a ∷ b ∷ c ∷ e ∷ more) d few = absurd (omega arith)

-- a decimal digit's value is what is left of its code
pub digit_is : (c : ℕ) → is_ascii_digit c ≡ true → (digit_value c ≡ c - 48) × (48 ≤ c) × (digit_value c < 10)
digit_is c h = (grind (arith, nat_tests), grind (arith, nat_tests), grind (arith, nat_tests))

-- one digit more
-- is read at place i
pub digit_read : (text : List ℕ) (i n : ℕ) → i < length text → length text ≤ 3 → AllDigits 10 (take i text) → n ≡ digits_value 10 (take i text)
    → is_ascii_digit (get_or text i 0) ≡ true
    → AllDigits 10 (take (i + 1) text) × (10 * n + (get_or text i 0 - 48) ≡ digits_value 10 (take (i + 1) text)) × (digits_value 10 (take (i + 1) text) < 1000)
digit_read text i n inside few d e h =
    let digit = digit_is (get_or text i 0) h in
    let all = digits_more 10 text i inside d digit.2 in (
      all,
      omega (arith, digits_value_more 10 text i inside, digit.0, e),
      few_digits (take (i + 1) text) all (omega (arith, length-take-le (i + 1) text (omega arith))),
    )
