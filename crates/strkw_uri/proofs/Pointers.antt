-- A pointer is read a character at a time.
use Rattle.std.proofs.Common.{◌≡◌, ◌≢◌, ◌↔◌, ℕ, ◌==◌, true, false, not, ◌||◌, IsTrue, List, [], ◌∷◌, ◌++◌, ◌⊎◌, inl, inr, refl, sym, ap, subst, ◌∙◌, codes}
use Rattle.std.proofs.lemmas.Bool.{cases_eq, ne_eqb}
use Rattle.strkw_text.specs.Abnf.{Form, ◌⨾◌, ◌∣◌, Literal, Empty, OneOf}
use Rattle.strkw_text.specs.Characters.{is_one_of, is_from_to}
use Rattle.strkw_uri.specs.Pointer.{is_unescaped, Escaped, ReferenceToken, IsJsonPointer, ZeroThenPointer}
use Rattle.strkw_text.specs.Fronts.{NotFirst}
use Rattle.strkw_text.proofs.Laws.{then, assoc, either_then, empty_then, literal_at, literal_not, front_cong, Repeat-cases, Repeat-nil}
use Rattle.strkw_text.proofs.Equivalences.{iff_trans}
use Rattle.strkw_text.proofs.Runs.{differ}

-- from within a pointer on: the rest of a token, and a pointer
abbrev pub InPointer : Form
InPointer = ReferenceToken ⨾ IsJsonPointer

-- a pointer is nothing, or a slash and what is within a pointer
pub pointer_at : (text after : List ℕ) → text ≡ 47 ∷ after → IsJsonPointer text ↔ InPointer after
pointer_at text after e =
    let S = Literal (47 ∷ []) ⨾ ReferenceToken in
    let i = Repeat-cases S text in
    let j = iff_trans (assoc (Literal (47 ∷ [])) ReferenceToken IsJsonPointer text) (literal_at InPointer 47 text after e) in (
      λ h. elim (i.0 h) [ inl n ↦ absurd (let t : 47 ∷ after ≡ [] = sym e ∙ n in let f : ⊥ = cc in f) | inr r ↦ j.0 r ],
      λ h. i.1 (inr (j.1 h)),
    )

-- a text that does not begin with a slash is a pointer exactly where it is empty
pub pointer_off : (text : List ℕ) → NotFirst 47 text → IsJsonPointer text ↔ (text ≡ [])
pointer_off text n =
    let S = Literal (47 ∷ []) ⨾ ReferenceToken in
    let i = Repeat-cases S text in (
      λ h. elim (i.0 h) [ inl e ↦ e | inr r ↦ absurd (literal_not InPointer 47 text n ((assoc (Literal (47 ∷ [])) ReferenceToken IsJsonPointer text).0 r)) ],
      λ e. i.1 (inl e),
    )

-- within a pointer: a pointer, an unescaped character or an escaped one
pub in_pointer : (text : List ℕ) → InPointer text ↔ (IsJsonPointer text ⊎ ((OneOf is_unescaped ⨾ InPointer) text ⊎ (Escaped ⨾ InPointer) text))
in_pointer text =
    let A = OneOf is_unescaped ∣ Escaped in
    let i = iff_trans (front_cong ReferenceToken (Empty ∣ A ⨾ ReferenceToken) IsJsonPointer text (Repeat-cases A))
    (either_then Empty (A ⨾ ReferenceToken) IsJsonPointer text) in
    let j = iff_trans (assoc A ReferenceToken IsJsonPointer text) (either_then (OneOf is_unescaped) Escaped InPointer text) in (
      λ h. elim (i.0 h) [ inl e ↦ inl ((empty_then IsJsonPointer text).0 e) | inr r ↦ inr (j.0 r) ],
      elim [ inl p ↦ i.1 (inl (then [] text text refl p refl)) | inr r ↦ i.1 (inr (j.1 r)) ],
    )

-- a character that is neither a tilde nor a slash is unescaped
unescaped_other : (c : ℕ) → c ≢ 126 → c ≢ 47 → IsTrue (is_unescaped c)
unescaped_other c a b = ap (λ t. not (t || ((c == 126) || false))) (ne_eqb c 47 b) ∙ ap (λ t. not (false || (t || false))) (ne_eqb c 126 a)

-- an unescaped character is not a tilde
unescaped_not : (c : ℕ) → IsTrue (is_unescaped c) → c ≢ 126
unescaped_not c h e = let g : IsTrue (is_unescaped 126) = subst (λ d. IsTrue (is_unescaped d)) e h in let f : false ≡ true = g in cc

-- behind a character other than a tilde, the rest is within a pointer exactly where the text is
pub step_char : (c : ℕ) (text after : List ℕ) → text ≡ c ∷ after → c ≢ 126 → InPointer text ↔ InPointer after
step_char c text after e n = (
  λ h. elim ((in_pointer text).0 h) [
    | inl p ↦ elim (cases_eq c 47) [
      | inl s ↦ (pointer_at text after (e ∙ ap (λ d. d ∷ after) s)).0 p
      | inr o ↦ let f = (pointer_off text (λ r g. let t : c ∷ after ≡ 47 ∷ r = sym e ∙ g in let u : c ≡ 47 = cc in o u)).0 p in let t : c ∷ after ≡ [] = sym e
          ∙ f in cc
    ]
    | inr r ↦ elim r [
      | inl u ↦ let t : u.first.character ∷ u.back ≡ c ∷ after = ap (λ s. s ++ u.back) (sym u.first.is) ∙ u.joined ∙ e in let v : u.back ≡ after = cc in
          subst InPointer v u.second
      | inr u ↦ let f = u.first in
          let t : 126 ∷ (f.back ++ u.back) ≡ c ∷ after = ap (λ s. s ++ u.back) (ap (λ s. s ++ f.back) (sym f.first) ∙ f.joined) ∙ u.joined ∙ e in
          let v : c ≡ 126 = cc in absurd (n v)
    ]
  ],
  λ h. elim (cases_eq c 47) [
    | inl s ↦ (in_pointer text).1 (inl ((pointer_at text after (e ∙ ap (λ d. d ∷ after) s)).1 h))
    | inr o ↦ (in_pointer text).1 (inr (inl (then (c ∷ []) after text (record { character = c; member = unescaped_other c n o; is = refl }) h (sym e))))
  ],
)

-- a tilde, and then what is within a pointer behind "0" or "1"
pub step_tilde : (text after : List ℕ) → text ≡ 126 ∷ after → InPointer text ↔ (OneOf (is_one_of (codes "01")) ⨾ InPointer) after
step_tilde text after e =
    let i = iff_trans (assoc (Literal (126 ∷ [])) (OneOf (is_one_of (codes "01"))) InPointer text)
    (literal_at (OneOf (is_one_of (codes "01")) ⨾ InPointer) 126 text after e) in (
      λ h. elim ((in_pointer text).0 h) [
        | inl p ↦ let f = (pointer_off text (λ r g. let t : 126 ∷ after ≡ 47 ∷ r = sym e ∙ g in let u : 126 ≡ 47 = cc in differ 126 47 refl u)).0 p in
            let t : 126 ∷ after ≡ [] = sym e ∙ f in cc
        | inr r ↦ elim r [
          | inl u ↦ let t : u.first.character ∷ u.back ≡ 126 ∷ after = ap (λ s. s ++ u.back) (sym u.first.is) ∙ u.joined ∙ e in
              let v : u.first.character ≡ 126 = cc in absurd (unescaped_not u.first.character u.first.member v)
          | inr u ↦ i.0 u
        ]
      ],
      λ h. (in_pointer text).1 (inr (inr (i.1 h))),
    )

-- an empty text, or one that begins with a slash, is not "#"
no_hash_shape : (p : List ℕ) → (p ≡ []) ⊎ ((rest : List ℕ) × (p ≡ 47 ∷ rest)) → p ≡ 35 ∷ [] → ⊥
no_hash_shape p (inl n) h = let t : ◌≡◌ {A = List ℕ} (35 ∷ []) [] = sym h ∙ n in cc
no_hash_shape p (inr k) h = let t : 35 ∷ [] ≡ 47 ∷ k.0 = sym h ∙ k.1 in let u : 35 ≡ 47 = cc in differ 35 47 refl u

-- the digit 0 is none of those from 1 to 9
not_from_one : (c : ℕ) → c ≡ 48 → IsTrue (is_from_to 49 57 c) → ⊥
not_from_one c e h = let g : IsTrue (is_from_to 49 57 48) = subst (λ d. IsTrue (is_from_to 49 57 d)) e h in let f : false ≡ true = g in cc

-- "0" before p, empty or with a slash first, is a relative pointer exactly where p is a pointer
pub zero_then_pointer : ZeroThenPointer
zero_then_pointer p shape = (
  λ h. elim h.first [
    | inl z ↦
        let t : 48 ∷ h.back ≡ 48 ∷ p = ap (λ s. s ++ h.back) (sym z) ∙ h.joined in
        let v : h.back ≡ p = cc in
        elim h.second [
          | inl s ↦ absurd (no_hash_shape p shape (sym v ∙ s))
          | inr q ↦ subst IsJsonPointer v q
        ]
    | inr d ↦
        let f = d.first in
        let t : f.character ∷ (d.back ++ h.back) ≡ 48 ∷ p = ap (λ s. s ++ h.back) (ap (λ s. s ++ d.back) (sym f.is) ∙ d.joined) ∙ h.joined in
        let v : f.character ≡ 48 = cc in
        absurd (not_from_one f.character v f.member)
  ],
  λ q. then (48 ∷ []) p (48 ∷ p) (inl refl) (inr q) refl,
)

-- an empty text is within a pointer
pub in_pointer_nil : InPointer []
in_pointer_nil = then [] [] [] (Repeat-nil (OneOf is_unescaped ∣ Escaped)) (Repeat-nil (Literal (47 ∷ []) ⨾ ReferenceToken)) refl
