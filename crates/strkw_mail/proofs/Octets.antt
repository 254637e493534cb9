-- Characters and the octets of their UTF-8.
use Rattle.std.proofs.Common.{◌≡◌, ◌≢◌, ◌↔◌, ℕ, ◌<◌, ◌≤◌, List, [], ◌∷◌, ◌++◌, length, get_or, inl, inr, refl, sym, ap, subst, ◌∙◌, arith}
use Rattle.std.proofs.Common.{encode_utf8, encode_utf8_all, append_assoc, append-nil}
use Rattle.std.specs.List.{AllByRecursion}
use Rattle.std.proofs.lemmas.Bool.{cases_lt, cases_eq}
use Rattle.std.proofs.lemmas.List.{nil_from_length}
use Rattle.std.proofs.lemmas.List.Elements.{recursion_from_All, All-from_get_or}
use Rattle.std.proofs.lemmas.Str.{encode_ascii, encodes-append, length-encode, len_utf8_bounds, length-le-encodes}
use Rattle.strkw_text.specs.Abnf.{Form, SeparatedBy}
use Rattle.strkw_text.specs.Delimiters.{Without}
use Rattle.strkw_text.specs.Fronts.{NotFirst}
use Rattle.strkw_text.proofs.Bytewise.{byte_past_ascii}
use Rattle.strkw_text.proofs.Delimiters.{Without-append, separated_step, separated_end}
use Rattle.strkw_text.proofs.Equivalences.{iff_trans, iff_sym}
use Rattle.strkw_text.proofs.Laws.{not_first}

-- a character has one octet at least
pub some_octets : (c : ℕ) → 0 < length (encode_utf8 c)
some_octets c = omega (arith, length-encode c, (len_utf8_bounds c).0)

-- a text is empty exactly where it has no octets
pub no_octets : (cs : List ℕ) → (cs ≡ []) ↔ (encode_utf8_all cs ≡ [])
no_octets cs = (
  λ e. ap encode_utf8_all e,
  λ e. nil_from_length cs (let none = length-le-encodes cs in let zero = ap length e in omega (arith, none, zero)),
)

-- a text with octets has characters
pub some_characters : (cs : List ℕ) → 0 < length (encode_utf8_all cs) → 0 < length cs
some_characters [] h = h
some_characters (c ∷ cs) h = omega arith

-- what holds of all numbers past ASCII
module _ (P : ℕ → Type 0) (wide : (c : ℕ) → 128 ≤ c → P c) where
  -- holds of each octet of a character where it holds of the character
  pub octets_of_one : (c : ℕ) → P c → AllByRecursion P (encode_utf8 c)
  octets_of_one c p = elim (cases_lt c 128) [
    | inl l ↦ subst (AllByRecursion P) (sym (encode_ascii c l)) (p, tt)
    | inr h ↦ recursion_from_All P (encode_utf8 c) (All-from_get_or P (encode_utf8 c) 0 (λ k l. wide (get_or (encode_utf8 c) k 0) (byte_past_ascii c k h l)))
  ]

  -- what holds of each of two rows holds of both in a row
  in_a_row : (xs ys : List ℕ) → AllByRecursion P xs → AllByRecursion P ys → AllByRecursion P (xs ++ ys)
  in_a_row [] ys a b = b
  in_a_row (x ∷ xs) ys a b = (a.0, in_a_row xs ys a.1 b)

  -- what holds of two rows holds of the second
  second_row : (xs ys : List ℕ) → AllByRecursion P (xs ++ ys) → AllByRecursion P ys
  second_row [] ys a = a
  second_row (x ∷ xs) ys a = second_row xs ys a.1

  -- holds of all octets of a text where it holds of all characters
  pub octets_from_characters : (cs : List ℕ) → AllByRecursion P cs → AllByRecursion P (encode_utf8_all cs)
  octets_from_characters [] a = tt
  octets_from_characters (c ∷ cs) a = in_a_row (encode_utf8 c) (encode_utf8_all cs) (octets_of_one c a.0) (octets_from_characters cs a.1)

  -- and the other way round
  pub characters_from_octets : (cs : List ℕ) → AllByRecursion P (encode_utf8_all cs) → AllByRecursion P cs
  characters_from_octets [] a = tt
  characters_from_octets (c ∷ cs) a = (
    elim (cases_lt c 128) [
      | inl l ↦ (subst (λ bs. AllByRecursion P (bs ++ encode_utf8_all cs)) (encode_ascii c l) a).0
      | inr h ↦ wide c h
    ],
    characters_from_octets cs (second_row (encode_utf8 c) (encode_utf8_all cs) a),
  )

module _ (w : ℕ) (low : w < 128) where
  -- a number past ASCII is no ASCII character
  past_differs : (c : ℕ) → 128 ≤ c → c ≢ w
  past_differs c h e = omega (arith, h, e, low)

  -- where a row that is not empty holds another number alone, no text with it in front begins with w
  other_first : (xs ys : List ℕ) → 0 < length xs → AllByRecursion (λ d. d ≢ w) xs → NotFirst w (xs ++ ys)
  other_first [] ys some a = absurd (omega (arith, some))
  other_first (x ∷ xs) ys some a = not_first x w (x ∷ (xs ++ ys)) (xs ++ ys) refl a.0

  -- a text that does not begin with the ASCII character w has other octets in front
  pub octets_not_first : (c : ℕ) (cs : List ℕ) → c ≢ w → NotFirst w (encode_utf8 c ++ encode_utf8_all cs)
  octets_not_first c cs n = other_first (encode_utf8 c) (encode_utf8_all cs) (some_octets c) (octets_of_one (λ d. d ≢ w) past_differs c n)

  -- the octets of a text that begins with w
  pub octets_first : (c : ℕ) (cs : List ℕ) → c ≡ w → encode_utf8 c ++ encode_utf8_all cs ≡ w ∷ encode_utf8_all cs
  octets_first c cs e = ap (λ bs. bs ++ encode_utf8_all cs) (ap encode_utf8 e ∙ encode_ascii w low)

  -- and of one in which it stands
  pub octets_around : (xs ys : List ℕ) → encode_utf8_all (xs ++ w ∷ ys) ≡ encode_utf8_all xs ++ w ∷ encode_utf8_all ys
  octets_around xs ys = encodes-append xs (w ∷ ys) ∙ ap (λ bs. encode_utf8_all xs ++ (bs ++ encode_utf8_all ys)) (encode_ascii w low)

  -- As with w between them, by characters and by octets, where A is the same by both and holds no w: from behind a
  -- front without w
  separated_from : (A : Form) → ((x : List ℕ) → A x → Without w x) → ((x : List ℕ) → A x ↔ A (encode_utf8_all x)) → (front rest : List ℕ)
      → Without w front → SeparatedBy w A (front ++ rest) ↔ SeparatedBy w A (encode_utf8_all (front ++ rest))
  separated_from A free same front [] n =
      let none = octets_from_characters (λ d. d ≢ w) past_differs front n in
      subst (λ t. SeparatedBy w A t ↔ SeparatedBy w A (encode_utf8_all t)) (sym (append-nil front))
      (iff_trans (separated_end w low A front n) (iff_trans (same front) (iff_sym (separated_end w low A (encode_utf8_all front) none))))
  separated_from A free same front (c ∷ rest) n = elim (cases_eq c w) [
    | inl e ↦
        let none = octets_from_characters (λ d. d ≢ w) past_differs front n in
        let later = separated_from A free same [] rest tt in
        let at = ap (λ d. front ++ d ∷ rest) e in
        let by_characters = separated_step w low A free (front ++ c ∷ rest) front rest n at in
        let by_octets = separated_step w low A free (encode_utf8_all (front ++ c ∷ rest)) (encode_utf8_all front) (encode_utf8_all rest) none
        (ap encode_utf8_all at ∙ octets_around front rest) in (
          λ h. let p = by_characters.0 h in by_octets.1 ((same front).0 p.0, later.0 p.1),
          λ h. let p = by_octets.0 h in by_characters.1 ((same front).1 p.0, later.1 p.1),
        )
    | inr other ↦ subst (λ t. SeparatedBy w A t ↔ SeparatedBy w A (encode_utf8_all t)) (append_assoc front (c ∷ []) rest)
        (separated_from A free same (front ++ c ∷ []) rest (Without-append w low front (c ∷ []) n (other, tt)))
  ]

  -- and from the start
  pub separated_octets : (A : Form) → ((x : List ℕ) → A x → Without w x) → ((x : List ℕ) → A x ↔ A (encode_utf8_all x)) → (text : List ℕ)
      → SeparatedBy w A text ↔ SeparatedBy w A (encode_utf8_all text)
  separated_octets A free same text = separated_from A free same [] text tt
