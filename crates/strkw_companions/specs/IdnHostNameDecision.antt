-- Each text is an internationalised host name, or it is not.
use Rattle.std.proofs.Common.{◌≡◌, ◌≤◌, ◌⊎◌, ◌↔◌, ℕ, List, [], ◌∷◌, Some, None, length, map, drop}
use Rattle.std.proofs.Common.{refl, sym, ap, ◌∙◌, subst, inl, inr, All, Option}
use Rattle.std.specs.Prelude.{IsTrue}
use lib.Utf8.{scalar}
use Rattle.std.specs.Char.{IsScalar, to_ascii_lowercase}
use Rattle.std.specs.List.{AllByRecursion, AllZip, join_with_byte, list_any, slice_split}
use Rattle.std.proofs.lemmas.List.Elements.{All-from_recursion, recursion_from_All}
use Rattle.std.specs.Str.{byte}
use Rattle.std.proofs.lemmas.Option.{same_Some}
use Rattle.idna.specs.Punycode.{encode, decode}
use Rattle.strkw_label.specs.BidiRule.{KeepsBidiRule, is_right_to_left_label}
use Rattle.strkw_label.specs.IdnHostName.{IsUnicodeLabel, a_label, IsPlainLabel, StandsFor}
use Rattle.strkw_label.specs.IdnHostName.{encoded_form, is_label_separator, IsIdnHostName}
use Rattle.strkw_label.proofs.EncodedLengths.{decoded_from_encoded}
use Rattle.strkw_label.proofs.IdnLabels.{one_form}
use Rattle.strkw_companions.specs.Decisions.{Decision, by_other, decide_both, decide_implication}
use Rattle.strkw_companions.specs.Decisions.{is_so, same_text}
use Rattle.strkw_companions.specs.Decisions.{at_most}
use Rattle.strkw_companions.specs.LabelDecision.{unicode_label, plain_label, bidi_rule, all_of}

-- ---- the form of a label

-- a U-label with a short A-label
record IsForm (form : List ℕ) : Type 0 where
  scalars : All IsScalar form
  label : IsUnicodeLabel form
  short : length (a_label form) ≤ 63

is_form : (form : List ℕ) → Decision (IsForm form)
is_form form = by_other (
  (λ h. record { scalars = h.0; label = h.1.0; short = h.1.1 }),
  (λ f. (f.scalars, (f.label, f.short))),
) (
    decide_both (all_of IsScalar (λ c. is_so (scalar c)) form)
    (decide_both (unicode_label form) (at_most (length (a_label form)) 63)))

-- the label, in small letters, is the A-label of a form
abbrev IsALabel : List ℕ → Type 0
IsALabel label = (form : List ℕ) × IsForm form × (map to_ascii_lowercase label ≡ a_label form)

-- the form is the one that is decoded
a_form : (label : List ℕ) (decoded : Option (List ℕ))
    → decode (drop 4 (map to_ascii_lowercase label)) ≡ decoded → Decision (IsALabel label)
a_form label None e = inr (λ h.
    let read = ap (λ l. decode (drop 4 l)) h.2 ∙ decoded_from_encoded h.0 h.1.scalars in
    let same : None ≡ Some h.0 = sym e ∙ read in cc)
a_form label (Some form) e = by_other (
  (λ h. (form, h.0, h.1)),
  (λ h.
      let read = ap (λ l. decode (drop 4 l)) h.2 ∙ decoded_from_encoded h.0 h.1.scalars in
      let same : h.0 ≡ form = same_Some h.0 form (sym read ∙ e) in
      subst (λ f. IsForm f × (map to_ascii_lowercase label ≡ a_label f)) same (h.1, h.2)),
) (decide_both (is_form form) (same_text (map to_ascii_lowercase label) (a_label form)))

-- a label stands for a form, or for none
form_of : (label : List ℕ) → Decision ((form : List ℕ) × StandsFor label form)
form_of label = elim (plain_label label) [
  | inl plain ↦ inl (label, inl (plain, refl))
  | inr not_plain ↦ elim (is_form label) [
    | inl u ↦ inl (label, inr (u.scalars, u.label, u.short, inl refl))
    | inr no_form ↦ elim (a_form label (decode (drop 4 (map to_ascii_lowercase label))) refl) [
      | inl h ↦ inl (h.0, inr (h.1.scalars, h.1.label, h.1.short, inr h.2))
      | inr none ↦ inr (λ h. no_other h.0 h.1 not_plain no_form none)
    ]
  ]
]
  where
    no_other : (form : List ℕ) → StandsFor label form → (IsPlainLabel label → ⊥)
        → (IsForm label → ⊥) → (IsALabel label → ⊥) → ⊥
    no_other form (inl p) not_plain no_form none = not_plain p.0
    no_other form (inr (s, u, l, inl e)) not_plain no_form none =
        no_form (subst IsForm (sym e) (record { scalars = s; label = u; short = l }))
    no_other form (inr (s, u, l, inr e)) not_plain no_form none =
        none (form, record { scalars = s; label = u; short = l }, e)

-- ---- the forms of labels

forms_of : (labels : List (List ℕ))
    → Decision ((forms : List (List ℕ)) × AllZip StandsFor labels forms)
forms_of [] = inl ([], tt)
forms_of (label ∷ labels) = elim (form_of label) [
  | inr none ↦ inr (λ h. first h.0 h.1 none)
  | inl one ↦ elim (forms_of labels) [
    | inl more ↦ inl (one.0 ∷ more.0, (one.1, more.1))
    | inr none ↦ inr (λ h. others h.0 h.1 none)
  ]
]
  where
    first : (forms : List (List ℕ)) → AllZip StandsFor (label ∷ labels) forms
        → ((form : List ℕ) × StandsFor label form → ⊥) → ⊥
    first [] zip none = zip
    first (form ∷ forms) zip none = none (form, zip.0)

    others : (forms : List (List ℕ)) → AllZip StandsFor (label ∷ labels) forms
        → ((forms : List (List ℕ)) × AllZip StandsFor labels forms → ⊥) → ⊥
    others [] zip none = zip
    others (form ∷ forms) zip none = none (forms, zip.1)

-- labels stand for one list of forms
one_list : (labels fs gs : List (List ℕ)) → AllZip StandsFor labels fs
    → AllZip StandsFor labels gs → fs ≡ gs
one_list [] [] [] f g = refl
one_list [] [] (y ∷ gs) f g = absurd g
one_list [] (x ∷ fs) gs f g = absurd f
one_list (label ∷ labels) [] gs f g = absurd f
one_list (label ∷ labels) (x ∷ fs) [] f g = absurd g
one_list (label ∷ labels) (x ∷ fs) (y ∷ gs) f g =
    ap (λ z. z ∷ fs) (one_form label x y f.0 g.0) ∙ ap (λ l. y ∷ l) (one_list labels fs gs f.1 g.1)

-- ---- the name

each_bidi : (forms : List (List ℕ)) → Decision (All KeepsBidiRule forms)
each_bidi forms = by_other (
  All-from_recursion KeepsBidiRule forms,
  recursion_from_All KeepsBidiRule forms,
) (each forms)
  where
    each : (forms : List (List ℕ)) → Decision (AllByRecursion KeepsBidiRule forms)
    each [] = inl tt
    each (form ∷ forms) = decide_both (bidi_rule form) (each forms)

-- what the forms have to be, beside those of the labels
abbrev FormsFit : List (List ℕ) → Type 0
FormsFit forms = (IsTrue (list_any is_right_to_left_label forms) → All KeepsBidiRule forms)
    × (length (join_with_byte (byte ".") (map encoded_form forms)) ≤ 253)

forms_fit : (forms : List (List ℕ)) → Decision (FormsFit forms)
forms_fit forms =
    decide_both (decide_implication (is_so (list_any is_right_to_left_label forms))
    (each_bidi forms))
    (at_most (length (join_with_byte (byte ".") (map encoded_form forms))) 253)

pub idn_host_name : (text : List ℕ) → Decision (IsIdnHostName text)
idn_host_name text = elim (forms_of (slice_split is_label_separator text)) [
  | inr none ↦ inr (λ n. none (n.forms, n.labels))
  | inl made ↦ by_other (
    (λ fit. record { forms = made.0; labels = made.1; bidi = fit.0; size = fit.1 }),
    (λ n. subst FormsFit
        (one_list (slice_split is_label_separator text) n.forms made.0 n.labels made.1)
        (n.bidi, n.size)),
  ) (forms_fit made.0)
]
