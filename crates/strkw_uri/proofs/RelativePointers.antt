-- A relative pointer: a whole number, and then "#" or a pointer.
use Rattle.std.proofs.Common.{◌≡◌, ◌↔◌, ℕ, false, List, [], ◌∷◌, inl, inr, refl, sym, ap, ◌∙◌}
use Rattle.std.specs.Char.{is_ascii_digit}
use Rattle.strkw_text.specs.Abnf.{Form, ◌⨾◌, ◌∣◌, Literal, Repeat, OneOf}
use Rattle.strkw_text.specs.Characters.{is_from_to, Digit}
use Rattle.strkw_text.specs.Fronts.{StartsWith, StartsWithNo, RunThen, NotFirst}
use Rattle.strkw_text.proofs.Equivalences.{iff_trans}
use Rattle.strkw_text.proofs.Laws.{assoc, either_then, literal_at, literal_not, no_start_then, not_first, Repeat-cases}
use Rattle.strkw_text.proofs.Optionals.{literal_ind}
use Rattle.strkw_text.proofs.Runs.{OneOf-free, free_then, run_then, one_stops, one_stops_nil, differ}
use Rattle.strkw_uri.specs.Pointer.{ReferenceToken, IsJsonPointer, NonNegativeInteger}
use Rattle.strkw_uri.specs.Scan.{HashOrPointer}
use Rattle.strkw_uri.proofs.Pointers.{pointer_off}

-- a digit from 1 to 9
abbrev NonzeroDigit : Form
NonzeroDigit = OneOf (is_from_to 49 57)

-- a text that begins with "#" is "#" or a pointer exactly where nothing follows
pub hash_at : (text after : List ℕ) → text ≡ 35 ∷ after → HashOrPointer text ↔ (after ≡ [])
hash_at text after e = (
  elim [
    | inl h ↦ let t : 35 ∷ after ≡ 35 ∷ [] = sym e ∙ h in cc
    | inr p ↦ let f = (pointer_off text (not_first 35 47 text after e (differ 35 47 refl))).0 p in let t : 35 ∷ after ≡ [] = sym e ∙ f in cc
  ],
  λ n. inl (e ∙ ap (λ s. 35 ∷ s) n),
)

-- a text that does not is "#" or a pointer exactly where it is a pointer
pub hash_off : (text : List ℕ) → NotFirst 35 text → HashOrPointer text ↔ IsJsonPointer text
hash_off text n = (elim [ inl h ↦ absurd (n [] h) | inr p ↦ p ], inr)

-- a pointer and "#" stop digits
-- a text that begins with a character that is no digit begins with no digit
no_digit : (c : ℕ) (text rest : List ℕ) → text ≡ c ∷ rest → is_ascii_digit c ≡ false → StartsWithNo Digit text
no_digit c text rest e h = one_stops is_ascii_digit c text rest e h

-- "#" or a pointer begins with no digit
pub pointer_stops : (x : List ℕ) → HashOrPointer x → StartsWithNo Digit x
pointer_stops x (inl h) = no_digit 35 x [] h refl
pointer_stops x (inr p) = elim ((Repeat-cases (Literal (47 ∷ []) ⨾ ReferenceToken) x).0 p) [
  | inl e ↦ one_stops_nil is_ascii_digit x e
  | inr r ↦ literal_ind (StartsWithNo Digit) 47 (ReferenceToken ⨾ IsJsonPointer) (λ rest. no_digit 47 (47 ∷ rest) rest refl refl) x
      ((assoc (Literal (47 ∷ [])) ReferenceToken IsJsonPointer x).0 r)
]

-- a number and B are "0" and B, or a nonzero digit, further digits and B
number_cases : (B : Form) (text : List ℕ) → (NonNegativeInteger ⨾ B) text ↔ ((Literal (48 ∷ []) ⨾ B) ∣ (NonzeroDigit ⨾ Repeat Digit ⨾ B)) text
number_cases B text =
    let i = either_then (Literal (48 ∷ [])) (NonzeroDigit ⨾ Repeat Digit) B text in
    let j = assoc NonzeroDigit (Repeat Digit) B text in
    (λ h. elim (i.0 h) [ inl a ↦ inl a | inr b ↦ inr (j.0 b) ], elim [ inl a ↦ i.1 (inl a) | inr b ↦ i.1 (inr (j.1 b)) ])

-- a text that begins with "0" is a number and B exactly where B follows
pub number_zero : (B : Form) (text after : List ℕ) → text ≡ 48 ∷ after → (NonNegativeInteger ⨾ B) text ↔ B after
number_zero B text after e =
    let i = literal_at B 48 text after e in (
      λ h. elim ((number_cases B text).0 h) [
        | inl a ↦ i.0 a
        | inr b ↦ absurd (no_start_then NonzeroDigit (Repeat Digit ⨾ B) text (one_stops (is_from_to 49 57) 48 text after e refl) b)
      ],
      λ b. (number_cases B text).1 (inl (i.1 b)),
    )

-- one that begins with a nonzero digit, exactly where B stands behind its digits
pub number_other : (B : Form) (text mid rest : List ℕ) → ((x : List ℕ) → B x → StartsWithNo Digit x) → NotFirst 48 text
    → StartsWith NonzeroDigit text mid → RunThen Digit mid rest → (NonNegativeInteger ⨾ B) text ↔ B rest
number_other B text mid rest stops n f r =
    let i = iff_trans (free_then NonzeroDigit (Repeat Digit ⨾ B) text mid (OneOf-free (is_from_to 49 57)) f)
    (run_then Digit B mid rest (OneOf-free is_ascii_digit) stops r) in (
      λ h. elim ((number_cases B text).0 h) [ inl a ↦ absurd (literal_not B 48 text n a) | inr b ↦ i.0 b ],
      λ b. (number_cases B text).1 (inr (i.1 b)),
    )

-- a text that begins with no digit is no number and B
pub no_number : (B : Form) (text : List ℕ) → NotFirst 48 text → StartsWithNo NonzeroDigit text → (NonNegativeInteger ⨾ B) text → ⊥
no_number B text n f h = elim ((number_cases B text).0 h) [
  | inl a ↦ literal_not B 48 text n a
  | inr b ↦ no_start_then NonzeroDigit (Repeat Digit ⨾ B) text f b
]
