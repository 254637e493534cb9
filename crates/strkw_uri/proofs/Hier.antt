-- The forms of a hierarchical or a relative part, by its first characters.
use Rattle.std.proofs.Common.{◌≡◌, ◌↔◌, ℕ, Bool, false, List, [], ◌∷◌, ◌++◌, inl, inr, refl, sym, ap, subst, ◌∙◌}
use Rattle.std.proofs.lemmas.Bool.{cases_eq}
use Rattle.strkw_text.specs.Abnf.{Form, ◌⨾◌, ◌∣◌, Literal, Empty, Optional, Repeat, Repeat1}
use Rattle.strkw_text.specs.Fronts.{NotFirst}
use Rattle.strkw_text.proofs.Equivalences.{iff_trans}
use Rattle.strkw_text.proofs.Laws.{then, assoc, optional_then, either_then, empty_then, literal_at, literal_not, not_first, not_first_nil, repeat_then}
use Rattle.strkw_text.proofs.Laws.{no_start_then}
use Rattle.strkw_text.proofs.Optionals.{repeat_then_off}
use Rattle.strkw_text.proofs.Runs.{differ}
use Rattle.strkw_uri.specs.Uri.{Encoded}
use Rattle.strkw_uri.specs.Scan.{or_slash}
use Rattle.strkw_uri.proofs.Encodings.{other_stops}
use Rattle.strkw_uri.proofs.Paths.{Slashes, segments_then}

-- two slashes
-- a text of two slashes and more is "//" and a C exactly where that is a C
slashes2_at : (C : Form) (text rest after : List ℕ) → text ≡ 47 ∷ rest → rest ≡ 47 ∷ after → (Literal (47 ∷ 47 ∷ []) ⨾ C) text ↔ C after
slashes2_at C text rest after e f = (
  λ h. let t : 47 ∷ 47 ∷ h.back ≡ 47 ∷ 47 ∷ after = ap (λ s. s ++ h.back) (sym h.first) ∙ h.joined ∙ e ∙ ap (λ s. 47 ∷ s) f in let u : h.back ≡ after = cc in
      subst C u h.second,
  λ b. then (47 ∷ 47 ∷ []) after text refl b (sym (e ∙ ap (λ s. 47 ∷ s) f)),
)

-- a slash that no other follows is not "//" and a C
slashes2_once : (C : Form) (text rest : List ℕ) → text ≡ 47 ∷ rest → NotFirst 47 rest → (Literal (47 ∷ 47 ∷ []) ⨾ C) text → ⊥
slashes2_once C text rest e n h = let t : 47 ∷ 47 ∷ h.back ≡ 47 ∷ rest = ap (λ s. s ++ h.back) (sym h.first) ∙ h.joined ∙ e in let u : rest ≡ 47 ∷ h.back =
    cc in n h.back u

-- nor is a text that does not begin with a slash
slashes2_not : (C : Form) (text : List ℕ) → NotFirst 47 text → (Literal (47 ∷ 47 ∷ []) ⨾ C) text → ⊥
slashes2_not C text n h = n (47 ∷ h.back) (sym (ap (λ s. s ++ h.back) (sym h.first) ∙ h.joined))

module _ (n p : ℕ → Bool) (slash : n 47 ≡ false) (B : Form) where
  -- a first segment that is not empty, and segments behind slashes
  abbrev Rootless : Form
  Rootless = Repeat1 (Encoded n) ⨾ Slashes p

  -- such a path and B are one character, further ones, segments behind slashes and B
  rootless_regroup : (text : List ℕ) → (Rootless ⨾ B) text ↔ (Encoded n ⨾ Repeat (Encoded n) ⨾ Slashes p ⨾ B) text
  rootless_regroup text = iff_trans (assoc (Repeat1 (Encoded n)) (Slashes p) B text) (assoc (Encoded n) (Repeat (Encoded n)) (Slashes p ⨾ B) text)

  -- a first segment that is not empty does not begin with a slash
  rootless_not : (text after : List ℕ) → text ≡ 47 ∷ after → (Rootless ⨾ B) text → ⊥
  rootless_not text after e h = no_start_then (Encoded n) (Repeat (Encoded n) ⨾ Slashes p ⨾ B) text (other_stops n 47 text after e slash (differ 47 37 refl))
      ((rootless_regroup text).0 h)

  -- a rootless path or none, and B
  rootless_or_empty : (text : List ℕ) → NotFirst 47 text → ((Rootless ⨾ B) ∣ B) text ↔ (Repeat (Encoded n) ⨾ Slashes p ⨾ B) text
  rootless_or_empty text f =
      let i = repeat_then (Encoded n) (Slashes p ⨾ B) text in
      let j = rootless_regroup text in
      let k = repeat_then_off 47 (Repeat (Encoded p)) B text f in (
        elim [ inl r ↦ i.1 (inr (j.0 r)) | inr b ↦ i.1 (inl (k.1 b)) ],
        λ h. elim (i.0 h) [ inl s ↦ inr (k.0 s) | inr r ↦ inl (j.1 r) ],
      )

-- the forms of a part that may begin with two slashes: A behind these, an absolute path, a rootless path or none
module _ (A B : Form) (n p : ℕ → Bool) (slash : n 47 ≡ false) (slash_in_p : p 47 ≡ false) (no_slash : (x : List ℕ) → B x → NotFirst 47 x) where
  -- a slash, and behind it a segment that is not empty and further segments, or nothing
  abbrev Absolute : Form
  Absolute = Literal (47 ∷ []) ⨾ Optional (Repeat1 (Encoded p) ⨾ Slashes p)

  -- "//" and an A, an absolute path, a rootless path or nothing
  abbrev Hier : Form
  Hier = Literal (47 ∷ 47 ∷ []) ⨾ A ∣ Absolute ∣ Repeat1 (Encoded n) ⨾ Slashes p ∣ Empty

  -- such a part and B are one of its four forms, each before B
  cases : (text : List ℕ) → (Hier ⨾ B) text ↔ ((Literal (47 ∷ 47 ∷ []) ⨾ A ⨾ B) ∣ (Literal (47 ∷ []) ⨾ Optional (Repeat1 (Encoded p) ⨾ Slashes p) ⨾ B)
      ∣ ((Repeat1 (Encoded n) ⨾ Slashes p) ⨾ B) ∣ B) text
  cases text =
      let i = either_then (Literal (47 ∷ 47 ∷ []) ⨾ A) (Absolute ∣ Repeat1 (Encoded n) ⨾ Slashes p ∣ Empty) B text in
      let j = either_then Absolute (Repeat1 (Encoded n) ⨾ Slashes p ∣ Empty) B text in
      let k = either_then (Repeat1 (Encoded n) ⨾ Slashes p) Empty B text in
      let l = empty_then B text in
      let a = assoc (Literal (47 ∷ 47 ∷ [])) A B text in
      let b = assoc (Literal (47 ∷ [])) (Optional (Repeat1 (Encoded p) ⨾ Slashes p)) B text in (
        λ h. elim (i.0 h) [
          | inl x ↦ inl (a.0 x)
          | inr y ↦ elim (j.0 y) [ inl x ↦ inr (inl (b.0 x)) | inr z ↦ elim (k.0 z) [ inl x ↦ inr (inr (inl x)) | inr x ↦ inr (inr (inr (l.0 x))) ] ]
        ],
        elim [
          | inl x ↦ i.1 (inl (a.1 x))
          | inr y ↦ i.1 (inr (j.1 (elim y [ inl x ↦ inl (b.1 x) | inr z ↦ inr (k.1 (elim z [ inl x ↦ inl x | inr x ↦ inr (l.1 x) ])) ])))
        ],
      )

  -- with two slashes first, a text is a part and B exactly where an A and B follow
  hier_two : (text rest after : List ℕ) → text ≡ 47 ∷ rest → rest ≡ 47 ∷ after → (Hier ⨾ B) text ↔ (A ⨾ B) after
  hier_two text rest after e f =
      let i = slashes2_at (A ⨾ B) text rest after e f in
      let O = Repeat1 (Encoded p) ⨾ Slashes p in (
        λ h. elim ((cases text).0 h) [
          | inl a ↦ i.0 a
          | inr b ↦ elim b [
            | inl c ↦ absurd (elim ((optional_then O B rest).0 ((literal_at (Optional O ⨾ B) 47 text rest e).0 c)) [
              | inl r ↦ rootless_not p p slash_in_p B rest after f r
              | inr t ↦ no_slash rest t after f
            ])
            | inr d ↦ absurd (elim d [ inl r ↦ rootless_not n p slash B text rest e r | inr t ↦ no_slash text t rest e ])
          ]
        ],
        λ h. (cases text).1 (inl (i.1 h)),
      )

  -- with just one first, exactly where a run of the class with the slash and B follow
  hier_one : (text rest : List ℕ) → text ≡ 47 ∷ rest → NotFirst 47 rest → (Hier ⨾ B) text ↔ (Repeat (Encoded (or_slash p)) ⨾ B) rest
  hier_one text rest e f =
      let O = Repeat1 (Encoded p) ⨾ Slashes p in
      let i = iff_trans (literal_at (Optional O ⨾ B) 47 text rest e) (optional_then O B rest) in
      let k = iff_trans (rootless_or_empty p p slash_in_p B rest f) (segments_then p B rest) in (
        λ h. elim ((cases text).0 h) [
          | inl a ↦ absurd (slashes2_once (A ⨾ B) text rest e f a)
          | inr b ↦ elim b [
            | inl c ↦ k.0 (i.0 c)
            | inr d ↦ absurd (elim d [ inl r ↦ rootless_not n p slash B text rest e r | inr t ↦ no_slash text t rest e ])
          ]
        ],
        λ h. (cases text).1 (inr (inl (i.1 (k.1 h)))),
      )

  -- with none first, exactly where it is a run of n, segments behind slashes and B
  pub hier_none : (text : List ℕ) → NotFirst 47 text → (Hier ⨾ B) text ↔ (Repeat (Encoded n) ⨾ Slashes p ⨾ B) text
  hier_none text f =
      let i = rootless_or_empty n p slash B text f in (
        λ h. elim ((cases text).0 h) [
          | inl a ↦ absurd (slashes2_not (A ⨾ B) text f a)
          | inr b ↦ elim b [
            | inl c ↦ absurd (literal_not (Optional (Repeat1 (Encoded p) ⨾ Slashes p) ⨾ B) 47 text f c)
            | inr d ↦ i.0 d
          ]
        ],
        λ h. (cases text).1 (inr (inr (i.1 h))),
      )

  -- behind one slash, where T is what stands behind two
  once : (T : Form) (text rest : List ℕ) → text ≡ 47 ∷ rest → NotFirst 47 rest
      → (Hier ⨾ B) text ↔ ((Literal (47 ∷ []) ⨾ T) ∣ (λ x. NotFirst 47 x × (Repeat (Encoded (or_slash p)) ⨾ B) x)) rest
  once T text rest e n = let i = hier_one text rest e n in (λ h. inr (n, i.0 h), elim [ inl s ↦ absurd (literal_not T 47 rest n s) | inr q ↦ i.1 q.1 ])

  -- the same behind one slash or more, where T is an A and B
  pub hier_slash : (T : Form) → ((x : List ℕ) → (A ⨾ B) x ↔ T x) → (text rest : List ℕ) → text ≡ 47 ∷ rest
      → (Hier ⨾ B) text ↔ ((Literal (47 ∷ []) ⨾ T) ∣ (λ x. NotFirst 47 x × (Repeat (Encoded (or_slash p)) ⨾ B) x)) rest
  hier_slash T same text [] e = once T text [] e (not_first_nil 47 [] refl)
  hier_slash T same text (c ∷ after) e = elim (cases_eq c 47) [
    | inl f ↦
        let at : c ∷ after ≡ 47 ∷ after = ap (λ x. x ∷ after) f in
        let i = iff_trans (hier_two text (c ∷ after) after e at) (same after) in
        let j = literal_at T 47 (c ∷ after) after at in
        (λ h. inl (j.1 (i.0 h)), elim [ inl s ↦ i.1 (j.0 s) | inr q ↦ absurd (q.0 after at) ])
    | inr other ↦ once T text (c ∷ after) e (not_first c 47 (c ∷ after) after refl other)
  ]
