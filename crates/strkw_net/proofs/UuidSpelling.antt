-- A UUID by octets of two hexadecimal digits, as RFC 9562 writes it.
use Rattle.std.proofs.Common.{◌≡◌, ◌↔◌, ℕ, zero, suc, ◌+◌, ◌<◌, List, [], ◌∷◌, ◌++◌, length, refl, ap, ◌∙◌, subst, arith}
use Rattle.std.specs.List.{concat, AllByRecursion}
use Rattle.std.specs.Char.{digit_value}
use Rattle.std.specs.Str.Parse.{AllDigits}
use Rattle.std.proofs.lemmas.Bool.Decides.{nat_tests}
use Rattle.std.proofs.lemmas.List.{append-nil, length-append}
use Rattle.strkw_text.specs.Abnf.{Form, ◌⨾◌, Literal, Exactly}
use Rattle.strkw_text.specs.Characters.{HexDigit}
use Rattle.strkw_text.proofs.Classes.{hexdigits_between}
use Rattle.strkw_text.proofs.Equivalences.{iff_trans}
use Rattle.strkw_text.proofs.Laws.{front_cong, back_cong}
use Rattle.strkw_net.specs.Uuid.{IsUuid}
use Rattle.strkw_net.specs.Spellings.{HexOctet, Uuid}

-- an octet of a UUID is two hexadecimal digits
digits_of_octet : (text : List ℕ) → HexOctet text → AllDigits 16 text × (length text ≡ 2)
digits_of_octet text h =
    let two : Exactly 2 HexDigit text = record {
      parts = h.front ∷ h.back ∷ [];
      each = (h.first, (h.second, tt));
      joined = ap (λ (x : List ℕ). h.front ++ x) (append-nil h.back) ∙ h.joined;
      at_least = omega arith;
      at_most = omega arith;
    } in
    let d = (hexdigits_between 2 2 text).0 two in
    (d.0, omega (arith, d.1))

-- hexadecimal digits behind hexadecimal digits are hexadecimal digits
digits_append : (xs ys : List ℕ) → AllDigits 16 xs → AllDigits 16 ys → AllDigits 16 (xs ++ ys)
digits_append [] ys a b = b
digits_append (x ∷ xs) ys a b = (a.0, digits_append xs ys a.1 b)

-- octets one after another are hexadecimal digits, twice as many as the octets
digits_of_octets : (parts : List (List ℕ)) → AllByRecursion HexOctet parts → AllDigits 16 (concat parts) × (length (concat parts) ≡ length parts + length parts)
digits_of_octets [] a = (tt, refl)
digits_of_octets (part ∷ parts) a =
    let d = digits_of_octet part a.0 in
    let r = digits_of_octets parts a.1 in
    (digits_append part (concat parts) d.0 r.0, omega (arith, d.1, r.1, length-append part (concat parts)))

-- a character of a value below 16 is a hexadecimal digit
one_digit : (c : ℕ) → digit_value c < 16 → HexDigit (c ∷ [])
one_digit c h = record { character = c; member = grind (arith, nat_tests); is = refl }

-- hexadecimal digits, twice n of them, are n octets
octets_of_digits : (n : ℕ) (text : List ℕ) → AllDigits 16 text → length text ≡ n + n → Exactly n HexOctet text
octets_of_digits zero [] d size = record { parts = []; each = tt; joined = refl; at_least = omega arith; at_most = omega arith }
octets_of_digits zero (c ∷ text) d size = absurd (omega arith)
octets_of_digits (suc n) [] d size = absurd (omega arith)
octets_of_digits (suc n) (b ∷ []) d size = absurd (omega arith)
octets_of_digits (suc n) (b ∷ c ∷ text) d size =
    let r = octets_of_digits n text d.1.1 (omega arith) in
    let octet : HexOctet (b ∷ c ∷ []) = record { front = b ∷ []; back = c ∷ []; first = one_digit b d.0; second = one_digit c d.1.0; joined = refl } in
    record {
      parts = (b ∷ c ∷ []) ∷ r.parts;
      each = (octet, r.each);
      joined = ap (λ (x : List ℕ). b ∷ c ∷ x) r.joined;
      at_least = omega (arith, r.at_least);
      at_most = omega (arith, r.at_most);
    }

-- a text is m hexadecimal digits, where m is twice n, exactly where it is n octets
octets : (n m : ℕ) → m ≡ n + n → (text : List ℕ) → Exactly m HexDigit text ↔ Exactly n HexOctet text
octets n m twice text =
    let i = hexdigits_between m m text in (
      λ h. let d = i.0 h in octets_of_digits n text d.0 (omega (arith, twice, d.1, d.2)),
      λ h.
          let d = digits_of_octets h.parts h.each in
          let size : length text ≡ m = omega (arith, ap length h.joined, twice, d.1, h.at_least, h.at_most) in
          i.1 (subst (AllDigits 16) h.joined d.0, omega (arith, size), omega (arith, size)),
    )

-- a run, a hyphen and more
-- are the same texts by two forms of each, where the two derive the same
run_then : (A A' B B' : Form) → ((x : List ℕ) → A x ↔ A' x) → ((x : List ℕ) → B x ↔ B' x) → (text : List ℕ)
    → (A ⨾ Literal (45 ∷ []) ⨾ B) text ↔ (A' ⨾ Literal (45 ∷ []) ⨾ B') text
run_then A A' B B' a b text =
    let dash = Literal (45 ∷ []) in
    iff_trans (front_cong A A' (dash ⨾ B) text a) (back_cong A' (dash ⨾ B) (dash ⨾ B') text (λ x. back_cong dash B B' x b))

-- a text is a UUID exactly where RFC 9562 derives it by octets
pub uuid_by_octets : (text : List ℕ) → IsUuid text ↔ Uuid text
uuid_by_octets =
    let dash = Literal (45 ∷ []) in
    let four = Exactly 4 HexDigit in
    let two = Exactly 2 HexOctet in
    let last = Exactly 12 HexDigit in
    let six = Exactly 6 HexOctet in
    run_then (Exactly 8 HexDigit) (Exactly 4 HexOctet) (four ⨾ dash ⨾ four ⨾ dash ⨾ four ⨾ dash ⨾ last) (two ⨾ dash ⨾ two ⨾ dash ⨾ two ⨾ dash ⨾ six)
    (octets 4 8 refl)
    (run_then four two (four ⨾ dash ⨾ four ⨾ dash ⨾ last) (two ⨾ dash ⨾ two ⨾ dash ⨾ six) (octets 2 4 refl)
    (run_then four two (four ⨾ dash ⨾ last) (two ⨾ dash ⨾ six) (octets 2 4 refl)
    (run_then four two last six (octets 2 4 refl) (octets 6 12 refl))))
