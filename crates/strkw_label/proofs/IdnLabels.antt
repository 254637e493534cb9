-- Labels and their Unicode forms: a label has one form, and at most 63 characters.
use Rattle.std.proofs.Common.{◌≡◌, ℕ, ◌+◌, ◌<◌, ◌≤◌, true, false, List, [], ◌∷◌, ◌++◌, length, get_or, drop, map, codes, All}
use Rattle.std.proofs.Common.{zero, suc, Some, inl, inr, refl, sym, ap, ap₂, subst, ◌∙◌, arith, length-append, lit<}
use Rattle.std.specs.Char.{IsScalar, is_ascii, is_ascii_uppercase, to_ascii_lowercase}
use Rattle.std.specs.List.{drop-map}
use Rattle.std.proofs.Math.ListN.{get_or-map}
use Rattle.std.proofs.lemmas.Bool.{false≢true, cond-true, cond-false}
use Rattle.std.proofs.lemmas.Bool.Decides.{nat_tests}
use Rattle.std.proofs.lemmas.List.{length-map}
use Rattle.std.proofs.lemmas.List.Elements.{All-weaker, All-map, All-from_get_or}
use Rattle.std.proofs.lemmas.List.Sums.{list_all-from_AllPass}
use Rattle.std.proofs.lemmas.Option.{same_Some}
use Rattle.idna.specs.Punycode.{encode, decode}
use Rattle.idna.proofs.PunycodeCanonical.{encode-decode}
use Rattle.idna.proofs.PunycodeLemmas.{IsAscii-encode}
use Rattle.strkw_net.specs.HostName.{IsLabel, is_letter_digit_hyphen}
use Rattle.strkw_label.specs.IdnHostName.{HasReservedHyphens, is_all_ascii, IsUnicodeLabel, StandsFor, a_label, encoded_form}
use Rattle.strkw_label.proofs.EncodedLengths.{text_length, decoded_from_encoded, scalars_from_decoded}

-- ---- ASCII

-- letters, digits and hyphens are ASCII
letter_is_ascii : (c : ℕ) → is_letter_digit_hyphen c ≡ true → is_ascii c ≡ true
letter_is_ascii c h = grind (arith, nat_tests)

-- a label of the net is ASCII
pub label_is_ascii : (label : List ℕ) → IsLabel label → is_all_ascii label ≡ true
label_is_ascii label l =
    list_all-from_AllPass is_ascii label (All-weaker (λ c. is_letter_digit_hyphen c ≡ true) (λ c. is_ascii c ≡ true) letter_is_ascii label l.letters)

-- a character is ASCII where its small letter is
ascii_from_lowercase : (c : ℕ) → to_ascii_lowercase c < 128 → is_ascii c ≡ true
ascii_from_lowercase c h = grind (arith, nat_tests)

-- a place of the A-label of a text is ASCII
a_label_place : (form : List ℕ) (k : ℕ) → get_or (a_label form) k 0 < 128
a_label_place form zero = lit< tt
a_label_place form (suc zero) = lit< tt
a_label_place form (suc (suc zero)) = lit< tt
a_label_place form (suc (suc (suc zero))) = lit< tt
a_label_place form (suc (suc (suc (suc k)))) = IsAscii-encode form k

-- a label whose small letters are an A-label is ASCII
pub ascii_from_a_label : (label form : List ℕ) → map to_ascii_lowercase label ≡ a_label form → is_all_ascii label ≡ true
ascii_from_a_label label form e =
    list_all-from_AllPass is_ascii label (
    All-from_get_or (λ c. is_ascii c ≡ true) label 0 (
    λ k lt. ascii_from_lowercase (get_or label k 0) (
    subst (λ x. x < 128) (ap (λ xs. get_or xs k 0) (sym e) ∙ get_or-map to_ascii_lowercase label k 0) (a_label_place form k))))

-- ---- hyphens

-- only the hyphen has the small letter hyphen
hyphen_from_lowercase : (c : ℕ) → to_ascii_lowercase c ≡ 45 → c ≡ 45
hyphen_from_lowercase c e = grind (arith, nat_tests)

-- a label whose small letters are an A-label has hyphens in third and fourth place
pub reserved_from_a_label : (label form : List ℕ) → map to_ascii_lowercase label ≡ a_label form → HasReservedHyphens label
reserved_from_a_label label form e = (at 2 refl, at 3 refl)
  where
    -- where the A-label has a hyphen, the label has one
    at : (k : ℕ) → get_or (a_label form) k 0 ≡ 45 → get_or label k 0 ≡ 45
    at k h = hyphen_from_lowercase (get_or label k 0) (sym (get_or-map to_ascii_lowercase label k 0) ∙ ap (λ xs. get_or xs k 0) e ∙ h)

-- ---- encoded forms

-- an ASCII label is its own encoded form
pub encoded_plain : (form : List ℕ) → is_all_ascii form ≡ true → encoded_form form ≡ form
unfolding encoded_form
encoded_plain form e = cond-true (is_all_ascii form) form (a_label form) e

-- and another one has its A-label
pub encoded_unicode : (form : List ℕ) → is_all_ascii form ≡ false → encoded_form form ≡ a_label form
unfolding encoded_form
encoded_unicode form e = cond-false (is_all_ascii form) form (a_label form) e

-- ---- forms

-- texts with one A-label are one text
same_from_a_label : (f g : List ℕ) → All IsScalar f → All IsScalar g → a_label f ≡ a_label g → f ≡ g
same_from_a_label f g sf sg e =
    same_Some f g (sym (decoded_from_encoded f sf) ∙ ap decode (ap (drop 4) e) ∙ decoded_from_encoded g sg)

-- an ASCII label is no U-label
no_unicode : {P : Type 0} (form : List ℕ) → IsUnicodeLabel form → is_all_ascii form ≡ true → P
no_unicode form u e = absurd (false≢true (sym u.beyond_ascii ∙ e))

-- a label stands for one form
pub one_form : (label f g : List ℕ) → StandsFor label f → StandsFor label g → f ≡ g
one_form label f g (inl p) (inl q) = sym p.1 ∙ q.1
one_form label f g (inl p) (inr (sg, ug, lg, inl e)) = no_unicode g ug (subst (λ x. is_all_ascii x ≡ true) e (label_is_ascii label p.0.ascii))
one_form label f g (inl p) (inr (sg, ug, lg, inr e)) = absurd (p.0.reserved (reserved_from_a_label label g e))
one_form label f g (inr (sf, uf, lf, inl e)) (inl q) = no_unicode f uf (subst (λ x. is_all_ascii x ≡ true) e (label_is_ascii label q.0.ascii))
one_form label f g (inr (sf, uf, lf, inr e)) (inl q) = absurd (q.0.reserved (reserved_from_a_label label f e))
one_form label f g (inr (sf, uf, lf, inl e)) (inr (sg, ug, lg, inl d)) = sym e ∙ d
one_form label f g (inr (sf, uf, lf, inl e)) (inr (sg, ug, lg, inr d)) =
    no_unicode f uf (subst (λ x. is_all_ascii x ≡ true) e (ascii_from_a_label label g d))
one_form label f g (inr (sf, uf, lf, inr e)) (inr (sg, ug, lg, inl d)) =
    no_unicode g ug (subst (λ x. is_all_ascii x ≡ true) d (ascii_from_a_label label f e))
one_form label f g (inr (sf, uf, lf, inr e)) (inr (sg, ug, lg, inr d)) = same_from_a_label f g sf sg (sym e ∙ d)

-- an A-label has four characters more than the Punycode
pub a_label_length : (form : List ℕ) → length (a_label form) ≡ 4 + length (encode form)
a_label_length form = length-append (codes "xn--") (encode form)

-- a label has at most 63 characters
pub label_fits : (label form : List ℕ) → StandsFor label form → length label ≤ 63
label_fits label form (inl p) = p.0.ascii.size.1
label_fits label form (inr (scalars, u, le, inl e)) =
    let text = text_length form scalars in
    omega (arith, ap length e, a_label_length form)
label_fits label form (inr (scalars, u, le, inr e)) =
    omega (arith, ap length e, length-map label to_ascii_lowercase)

-- ---- what the code finds of a label

-- a label past ASCII stands for itself alone
pub form_past_ascii : (label form : List ℕ) → is_all_ascii label ≡ false → StandsFor label form → IsUnicodeLabel label × (length (a_label label) ≤ 63)
form_past_ascii label form beyond (inl p) = absurd (false≢true (sym beyond ∙ label_is_ascii label p.0.ascii))
form_past_ascii label form beyond (inr (scalars, u, le, inl e)) = subst (λ x. IsUnicodeLabel x × (length (a_label x) ≤ 63)) (sym e) (u, le)
form_past_ascii label form beyond (inr (scalars, u, le, inr e)) = absurd (false≢true (sym beyond ∙ ascii_from_a_label label form e))

-- an ASCII label without reserved hyphens is an NR-LDH label
pub form_in_ascii : (label form : List ℕ) → is_all_ascii label ≡ true → (HasReservedHyphens label → ⊥) → StandsFor label form → IsLabel label
form_in_ascii label form ascii plain (inl p) = p.0.ascii
form_in_ascii label form ascii plain (inr (scalars, u, le, inl e)) = no_unicode form u (subst (λ x. is_all_ascii x ≡ true) e ascii)
form_in_ascii label form ascii plain (inr (scalars, u, le, inr e)) = absurd (plain (reserved_from_a_label label form e))

-- an ASCII label with reserved hyphens is an A-label
pub form_of_a_label : (label form : List ℕ) → is_all_ascii label ≡ true → HasReservedHyphens label → StandsFor label form
    → All IsScalar form × IsUnicodeLabel form × (map to_ascii_lowercase label ≡ a_label form)
form_of_a_label label form ascii reserved (inl p) = absurd (p.0.reserved reserved)
form_of_a_label label form ascii reserved (inr (scalars, u, le, inl e)) = no_unicode form u (subst (λ x. is_all_ascii x ≡ true) e ascii)
form_of_a_label label form ascii reserved (inr (scalars, u, le, inr e)) = (scalars, u, e)

-- the first two characters of `xn--`, in any letter case
abbrev pub BeginsXn : List ℕ → Type 0
BeginsXn label = (to_ascii_lowercase (get_or label 0 0) ≡ 120) × (to_ascii_lowercase (get_or label 1 0) ≡ 110)

-- an A-label begins so
pub begins_from_a_label : (label form : List ℕ) → map to_ascii_lowercase label ≡ a_label form → BeginsXn label
begins_from_a_label label form e = (
  sym (get_or-map to_ascii_lowercase label 0 0) ∙ ap (λ xs. get_or xs 0 0) e,
  sym (get_or-map to_ascii_lowercase label 1 0) ∙ ap (λ xs. get_or xs 1 0) e,
)

-- and what follows its prefix are the small letters of the Punycode
pub payload_from_a_label : (label form : List ℕ) → map to_ascii_lowercase label ≡ a_label form → map to_ascii_lowercase (drop 4 label) ≡ encode form
payload_from_a_label label form e = sym (drop-map to_ascii_lowercase 4 label) ∙ ap (drop 4) e

-- a label with the four characters of the prefix is the prefix and the rest
whole_label : (label : List ℕ) → HasReservedHyphens label → BeginsXn label
    → map to_ascii_lowercase label ≡ codes "xn--" ++ map to_ascii_lowercase (drop 4 label)
whole_label [] r b = absurd (omega (arith, r.0))
whole_label (x ∷ []) r b = absurd (omega (arith, r.0))
whole_label (x ∷ y ∷ []) r b = absurd (omega (arith, r.0))
whole_label (x ∷ y ∷ z ∷ []) r b = absurd (omega (arith, r.1))
whole_label (x ∷ y ∷ z ∷ w ∷ rest) r b =
    ap₂ ◌∷◌ b.0 (ap₂ ◌∷◌ b.1 (ap₂ ◌∷◌ (ap to_ascii_lowercase r.0) (ap (λ c. c ∷ map to_ascii_lowercase rest) (ap to_ascii_lowercase r.1))))

-- a label with reserved hyphens has four characters or more
pub reserved_length : (label : List ℕ) → HasReservedHyphens label → 4 ≤ length label
reserved_length [] r = absurd (omega (arith, r.0))
reserved_length (x ∷ []) r = absurd (omega (arith, r.0))
reserved_length (x ∷ y ∷ []) r = absurd (omega (arith, r.0))
reserved_length (x ∷ y ∷ z ∷ []) r = absurd (omega (arith, r.1))
reserved_length (x ∷ y ∷ z ∷ w ∷ rest) r = omega arith

-- small letters are no capital letters
no_capital : (xs : List ℕ) → All (λ c. is_ascii_uppercase c ≡ false) (map to_ascii_lowercase xs)
no_capital xs = All-map (λ c. is_ascii_uppercase c ≡ false) to_ascii_lowercase xs
    (All-from_get_or (λ c. is_ascii_uppercase (to_ascii_lowercase c) ≡ false) xs 0 (λ k lt. small (get_or xs k 0)))
  where
    -- of one character
    small : (c : ℕ) → is_ascii_uppercase (to_ascii_lowercase c) ≡ false
    small c = grind (arith, nat_tests)

-- a label whose payload is decoded is the A-label of the text
pub a_label_from_decoded : (label payload form : List ℕ) → HasReservedHyphens label → BeginsXn label → payload ≡ map to_ascii_lowercase (drop 4 label)
    → decode payload ≡ Some form → map to_ascii_lowercase label ≡ a_label form
a_label_from_decoded label payload form r b p d =
    let same : encode form ≡ payload = encode-decode payload form (subst (All (λ c. is_ascii_uppercase c ≡ false)) (sym p) (no_capital (drop 4 label))) d in
    whole_label label r b ∙ ap (λ xs. codes "xn--" ++ xs) (sym p ∙ sym same)

-- an A-label is as long as the encoded form of what it stands for
pub length_from_a_label : (label form : List ℕ) → map to_ascii_lowercase label ≡ a_label form
    → is_all_ascii form ≡ false → length label ≡ length (encoded_form form)
length_from_a_label label form e beyond = sym (length-map label to_ascii_lowercase) ∙ ap length (e ∙ sym (encoded_unicode form beyond))

-- and stands for it
pub stands_from_a_label : (label payload form : List ℕ) → HasReservedHyphens label → BeginsXn label → payload ≡ map to_ascii_lowercase (drop 4 label)
    → decode payload ≡ Some form → IsUnicodeLabel form → length label ≤ 63 → StandsFor label form
stands_from_a_label label payload form r b p d u le =
    let e = a_label_from_decoded label payload form r b p d in
    inr (
      scalars_from_decoded payload form d,
      u,
      (let same : length (a_label form) ≡ length label = sym (ap length e) ∙ length-map label to_ascii_lowercase in omega (arith, same)),
      inr e,
    )

-- a U-label that is not too long stands for itself
pub stands_past_ascii : (label : List ℕ) → All IsScalar label → IsUnicodeLabel label → 4 + length (encode label) ≤ 63 → StandsFor label label
stands_past_ascii label scalars u le = inr (scalars, u, (omega (arith, a_label_length label)), inl refl)

-- and its encoded form has that length
pub length_past_ascii : (label : List ℕ) → is_all_ascii label ≡ false → 4 + length (encode label) ≡ length (encoded_form label)
length_past_ascii label beyond = sym (a_label_length label) ∙ ap length (sym (encoded_unicode label beyond))

-- a U-label of another length stands for nothing
pub too_long : (label form : List ℕ) → is_all_ascii label ≡ false → 63 < 4 + length (encode label) → StandsFor label form → ⊥
too_long label form beyond lt s = let h = form_past_ascii label form beyond s in omega (arith, a_label_length label, h.1)
