-- An IPv4 address by the decimal octets of RFC 3986.
use Rattle.std.proofs.Common.{◌≡◌, ◌↔◌, ℕ, ◌+◌, ◌*◌, ◌<◌, ◌≤◌, ◌⊎◌, IsTrue, Bool, List, [], ◌∷◌, ◌++◌, length, get_or, refl, ap, sym, ◌∙◌, subst, inl, inr}
use Rattle.std.proofs.Common.{arith}
use Rattle.std.specs.Prelude.{codes, decimal}
use Rattle.std.specs.List.{concat, AllByRecursion}
use Rattle.std.specs.Char.{digit_value, is_ascii_digit}
use Rattle.std.specs.Str.Parse.{AllDigits, digits_value}
use Rattle.std.proofs.lemmas.Bool.{cases_lt}
use Rattle.std.proofs.lemmas.Bool.Decides.{nat_tests}
use Rattle.std.proofs.lemmas.Fmt.{decimal_is_IsNumeral, decimal-digits_value, first_decimal, length-decimal-le}
use Rattle.std.proofs.lemmas.Str.Parse.{IsNumeralModel}
use Rattle.strkw_text.specs.Abnf.{Form, ◌⨾◌, Literal, Exactly, OneOf}
use Rattle.strkw_text.specs.Characters.{is_from_to, Digit}
use Rattle.strkw_text.proofs.Laws.{then}
use Rattle.strkw_net.specs.Addresses.{IsIpv4}
use Rattle.strkw_net.specs.Spellings.{DecOctet, Ipv4Address}

-- a number below 256 in decimal
record IsOctet (text : List ℕ) : Type 0 where
  number : ℕ
  fits : number < 256
  spelled : text ≡ decimal number

-- std's own words for decimal digits and their value serve as the words of a numeral
plain : IsNumeralModel (AllDigits 10) (digits_value 10)
plain = record { to = λ ds d. d; from = λ ds d. d; same = λ ds d. refl }

-- decimal digits of a value below 256, at least one, with no "0" before others, are an octet
octet_of_digits : (text : List ℕ) → AllDigits 10 text → 0 < length text → (get_or text 0 0 ≡ 48 → length text ≡ 1) → digits_value 10 text < 256 → IsOctet text
octet_of_digits text d some lead fits = record {
  number = digits_value 10 text;
  fits = fits;
  spelled = sym (decimal-digits_value plain text d some lead (omega (arith, fits)));
}

-- a character and the digit that it is
record DigitAt (c : ℕ) : Type 0 where
  below : digit_value c < 10
  is : c ≡ 48 + digit_value c

-- a decimal digit is such a character
digit_at : (c : ℕ) → IsTrue (is_ascii_digit c) → DigitAt c
digit_at c h = record { below = grind (arith, nat_tests); is = grind (arith, nat_tests) }

-- and back: a character of a value below 10 is the decimal digit of that value
digit_from : (c : ℕ) → digit_value c < 10 → IsTrue (is_ascii_digit c) × (c ≡ 48 + digit_value c)
digit_from c h = (grind (arith, nat_tests), grind (arith, nat_tests))

-- a character of a range of digits is a digit, within the bounds of the range
range_at : (low high c : ℕ) → 48 ≤ low → high ≤ 57 → IsTrue (is_from_to low high c) → DigitAt c × (low ≤ c) × (c ≤ high)
range_at low high c l h m =
    let bounds : (low ≤ c) × (c ≤ high) = (grind (arith, nat_tests), grind (arith, nat_tests)) in
    (digit_at c (grind (arith, nat_tests)), bounds.0, bounds.1)

-- a text that is joined of one character and a rest is this character before the rest
one_of_text : (p : List ℕ) (c : ℕ) (front back : List ℕ) → front ≡ c ∷ [] → front ++ back ≡ p → p ≡ c ∷ back
one_of_text p c front back e j = sym j ∙ ap (λ (x : List ℕ). x ++ back) e

-- one decimal digit alone is an octet
octet1 : (a : ℕ) → DigitAt a → IsOctet (a ∷ [])
octet1 a d = octet_of_digits (a ∷ []) (d.below, tt) (omega arith) (λ e. refl) (omega (arith, d.below))

-- two decimal digits, the first no "0", are an octet
octet2 : (a b : ℕ) → DigitAt a → DigitAt b → 49 ≤ a → IsOctet (a ∷ b ∷ [])
octet2 a b d e some = octet_of_digits (a ∷ b ∷ []) (d.below, (e.below, tt)) (omega arith) (λ zero. absurd (omega (arith, zero, some)))
    (omega (arith, d.below, e.below))

-- three decimal digits of a value below 256, the first no "0", are an octet
octet3 : (a b c : ℕ) → DigitAt a → DigitAt b → DigitAt c → 49 ≤ a → 100 * digit_value a + 10 * digit_value b + digit_value c < 256 → IsOctet (a ∷ b ∷ c ∷ [])
octet3 a b c d e f some fits = octet_of_digits (a ∷ b ∷ c ∷ []) (d.below, (e.below, (f.below, tt))) (omega arith) (λ zero. absurd (omega (arith, zero, some)))
    (omega (arith, fits))

-- a dec-octet by the rule is a number below 256 in decimal
octet_from_rule : (text : List ℕ) → DecOctet text → IsOctet text
octet_from_rule text (inl h) = subst IsOctet (sym h.is) (octet1 h.character (digit_at h.character h.member))
octet_from_rule text (inr (inl h)) =
    let a = range_at 49 57 h.first.character (omega arith) (omega arith) h.first.member in
    let b = digit_at h.second.character h.second.member in
    subst IsOctet (sym (one_of_text text h.first.character h.front h.back h.first.is h.joined ∙ ap (λ (x : List ℕ). h.first.character ∷ x) h.second.is))
    (octet2 h.first.character h.second.character a.0 b a.1)
octet_from_rule text (inr (inr (inl h))) = hundred h.second.parts h.second.each h.second.joined h.second.at_least h.second.at_most
  where
    hundred : (parts : List (List ℕ)) → AllByRecursion Digit parts → concat parts ≡ h.back → 2 ≤ length parts → length parts ≤ 2 → IsOctet text
    hundred [] each joined least most = absurd (omega arith)
    hundred (p ∷ []) each joined least most = absurd (omega arith)
    hundred (p ∷ q ∷ r ∷ parts) each joined least most = absurd (omega arith)
    hundred (p ∷ q ∷ []) each joined least most =
        let b = each.0.character in
        let c = each.1.0.character in
        let pq : h.back ≡ b ∷ c ∷ [] = sym joined ∙ ap (λ (x : List ℕ). x ++ (q ++ [])) each.0.is ∙ ap (λ (x : List ℕ). b ∷ (x ++ [])) each.1.0.is in
        let whole : text ≡ 49 ∷ b ∷ c ∷ [] = one_of_text text 49 h.front h.back h.first h.joined ∙ ap (λ (x : List ℕ). 49 ∷ x) pq in
        let d = digit_at b each.0.member in
        let e = digit_at c each.1.0.member in
        subst IsOctet (sym whole) (octet3 49 b c (digit_at 49 refl) d e (omega arith) (omega (arith, d.below, e.below)))
octet_from_rule text (inr (inr (inr (inl h)))) =
    let b = h.second.first.character in
    let c = h.second.second.character in
    let back : h.back ≡ b ∷ c ∷ [] = one_of_text h.back b h.second.front h.second.back h.second.first.is h.second.joined
    ∙ ap (λ (x : List ℕ). b ∷ x) h.second.second.is in
    let whole : text ≡ 50 ∷ b ∷ c ∷ [] = one_of_text text 50 h.front h.back h.first h.joined ∙ ap (λ (x : List ℕ). 50 ∷ x) back in
    let d = range_at 48 52 b (omega arith) (omega arith) h.second.first.member in
    let e = digit_at c h.second.second.member in
    subst IsOctet (sym whole) (octet3 50 b c (digit_at 50 refl) d.0 e (omega arith) (omega (arith, d.0.is, d.2, e.below)))
octet_from_rule text (inr (inr (inr (inr h)))) =
    let c = h.second.character in
    let whole : text ≡ 50 ∷ 53 ∷ c ∷ [] = sym h.joined ∙ ap (λ (x : List ℕ). x ++ h.back) h.first ∙ ap (λ (x : List ℕ). 50 ∷ 53 ∷ x) h.second.is in
    let e = range_at 48 53 c (omega arith) (omega arith) h.second.member in
    subst IsOctet (sym whole) (octet3 50 53 c (digit_at 50 refl) (digit_at 53 refl) e.0 (omega arith) (omega (arith, e.0.is, e.2)))

-- a character between two bounds, these included, is of their range
from_to : (low high c : ℕ) → low ≤ c → c ≤ high → IsTrue (is_from_to low high c)
from_to low high c l h = grind (arith, nat_tests)

-- a character of a class is a text of the class
one : (class : ℕ → Bool) (c : ℕ) → IsTrue (class c) → OneOf class (c ∷ [])
one class c m = record { character = c; member = m; is = refl }

-- one to three digits of a value below 256, with no "0" before others, are a dec-octet
rule_from_digits : (text : List ℕ) → AllDigits 10 text → 0 < length text → length text ≤ 3 → (1 < length text → 48 < get_or text 0 0)
    → digits_value 10 text < 256 → DecOctet text
rule_from_digits [] d some few lead fits = absurd (omega arith)
rule_from_digits (a ∷ []) d some few lead fits = inl (one is_ascii_digit a (digit_from a d.0).0)
rule_from_digits (a ∷ b ∷ []) d some few lead fits =
    let x = digit_from a d.0 in
    let first : 48 < a = lead (omega arith) in
    inr (inl (then (a ∷ []) (b ∷ []) (a ∷ b ∷ []) (one (is_from_to 49 57) a (from_to 49 57 a (omega (arith, first)) (omega (arith, x.1, d.0))))
    (one is_ascii_digit b (digit_from b d.1.0).0) refl))
rule_from_digits (a ∷ b ∷ c ∷ []) d some few lead fits = by_hundreds (cases_lt a 50)
  where
    x : IsTrue (is_ascii_digit a) × (a ≡ 48 + digit_value a)
    x = digit_from a d.0

    y : IsTrue (is_ascii_digit b) × (b ≡ 48 + digit_value b)
    y = digit_from b d.1.0

    z : IsTrue (is_ascii_digit c) × (c ≡ 48 + digit_value c)
    z = digit_from c d.1.1.0

    first : 48 < a
    first = lead (omega arith)

    sum : 100 * digit_value a + 10 * digit_value b + digit_value c < 256
    sum = omega (arith, fits)

    two_hundreds : a ≡ 50 → (b < 53) ⊎ (53 ≤ b) → DecOctet (a ∷ b ∷ c ∷ [])
    two_hundreds e (inl below) = inr (inr (inr (inl (then (a ∷ []) (b ∷ c ∷ []) (a ∷ b ∷ c ∷ []) (ap (λ n. n ∷ []) e)
        (then (b ∷ []) (c ∷ []) (b ∷ c ∷ []) (one (is_from_to 48 52) b (from_to 48 52 b (omega (arith, y.1)) (omega (arith, below)))) (one is_ascii_digit c z.0)
        refl) refl))))
    two_hundreds e (inr above) =
        let at : b ≡ 53 = omega (arith, sum, x.1, y.1, z.1, e, above) in
        let low : c ≤ 53 = omega (arith, sum, x.1, y.1, z.1, e, above) in
        inr (inr (inr (inr (then (a ∷ b ∷ []) (c ∷ []) (a ∷ b ∷ c ∷ []) (ap (λ n. n ∷ b ∷ []) e ∙ ap (λ n. 50 ∷ n ∷ []) at)
        (one (is_from_to 48 53) c (from_to 48 53 c (omega (arith, z.1)) low)) refl))))

    by_hundreds : (a < 50) ⊎ (50 ≤ a) → DecOctet (a ∷ b ∷ c ∷ [])
    by_hundreds (inl below) =
        let e : a ≡ 49 = omega (arith, below, first) in
        let two : Exactly 2 Digit (b ∷ c ∷ []) = record {
          parts = (b ∷ []) ∷ (c ∷ []) ∷ [];
          each = (one is_ascii_digit b y.0, (one is_ascii_digit c z.0, tt));
          joined = refl;
          at_least = omega arith;
          at_most = omega arith;
        } in
        inr (inr (inl (then (a ∷ []) (b ∷ c ∷ []) (a ∷ b ∷ c ∷ []) (ap (λ n. n ∷ []) e) two refl)))
    by_hundreds (inr above) = two_hundreds (omega (arith, sum, x.1, y.1, z.1, above)) (cases_lt b 53)
rule_from_digits (a ∷ b ∷ c ∷ e ∷ more) d some few lead fits = absurd (omega arith)

-- a number below 256 in decimal is a dec-octet by the rule
rule_of_number : (n : ℕ) → n < 256 → DecOctet (decimal n)
rule_of_number n fits =
    let d = decimal_is_IsNumeral n (omega (arith, fits)) in
    rule_from_digits (decimal n) d.0.1 d.0.0 (length-decimal-le 3 n (omega arith) (omega (arith, fits)) (omega (arith, fits))) (λ more. elim (cases_lt 0 n) [
      | inl some ↦ first_decimal n some (omega (arith, fits))
      | inr none ↦ absurd (omega (arith, more, length-decimal-le 1 n (omega arith) (omega (arith, none)) (omega (arith, fits))))
    ]) (omega (arith, d.1, fits))

-- an octet, a dot and more
-- a number below 256 in decimal before a dot and a B is a dec-octet before these
before_dot : (B : Form) (n : ℕ) (back : List ℕ) → n < 256 → B back → (DecOctet ⨾ Literal (codes ".") ⨾ B) (decimal n ++ 46 ∷ back)
before_dot B n back fits b = then (decimal n) (46 ∷ back) (decimal n ++ 46 ∷ back) (rule_of_number n fits) (then (codes ".") back (46 ∷ back) refl b refl) refl

-- and back: such a text is the number of its octet in decimal, a dot and the B
at_dot : (B : Form) (text : List ℕ) → (h : (DecOctet ⨾ Literal (codes ".") ⨾ B) text)
    → text ≡ decimal (octet_from_rule h.front h.first).number ++ 46 ∷ h.second.back
at_dot B text h =
    sym h.joined ∙ ap (λ (x : List ℕ). h.front ++ x) (sym h.second.joined ∙ ap (λ (x : List ℕ). x ++ h.second.back) h.second.first)
    ∙ ap (λ (x : List ℕ). x ++ 46 ∷ h.second.back) (octet_from_rule h.front h.first).spelled

-- a text is an IPv4 address exactly where it is four dec-octets with dots between them
pub ipv4_by_octets : (text : List ℕ) → IsIpv4 text ↔ Ipv4Address text
ipv4_by_octets text =
    let dot = Literal (codes ".") in
    let three = DecOctet ⨾ dot ⨾ DecOctet ⨾ dot ⨾ DecOctet in
    let two = DecOctet ⨾ dot ⨾ DecOctet in (
      λ w.
          let last = rule_of_number w.d w.fit.3 in
          let c = before_dot DecOctet w.c (decimal w.d) w.fit.2 last in
          let b = before_dot two w.b (decimal w.c ++ 46 ∷ decimal w.d) w.fit.1 c in
          let a = before_dot three w.a (decimal w.b ++ 46 ∷ (decimal w.c ++ 46 ∷ decimal w.d)) w.fit.0 b in
          subst Ipv4Address (sym w.spelled) a,
      λ h.
          let p = h.second.second in
          let q = p.second.second in
          let a = octet_from_rule h.front h.first in
          let b = octet_from_rule p.front p.first in
          let c = octet_from_rule q.front q.first in
          let d = octet_from_rule q.second.back q.second.second in
          record {
            a = a.number;
            b = b.number;
            c = c.number;
            d = d.number;
            fit = (a.fits, b.fits, c.fits, d.fits);
            spelled = at_dot three text h ∙ ap (λ (x : List ℕ). decimal a.number ++ 46 ∷ x) (at_dot two h.second.back p
                ∙ ap (λ (x : List ℕ). decimal b.number ++ 46 ∷ x) (at_dot DecOctet p.second.back q
                ∙ ap (λ (x : List ℕ). decimal c.number ++ 46 ∷ x) d.spelled));
          },
    )
