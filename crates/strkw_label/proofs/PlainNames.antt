-- Names of NR-LDH labels with full stops between them are internationalised host names.
use Rattle.std.proofs.Common.{◌≡◌, ℕ, ◌<◌, ◌≤◌, Bool, true, false, ◌||◌, List, [], ◌∷◌, length, map, All}
use Rattle.std.proofs.Common.{◌==◌, inl, inr, refl, sym, ap, ap₂, subst, ◌∙◌, lit<, ltb-true, arith}
use Rattle.std.specs.Char.{is_ascii}
use Rattle.std.specs.List.{AllByRecursion, AllZip, join_with_byte, list_any, onto_first, slice_split}
use Rattle.std.specs.Str.{IsAscii}
use Rattle.std.proofs.lemmas.Bool.{agree_below, agree_below_at, cases_Bool, false≢true}
use Rattle.std.proofs.lemmas.List.Elements.{All-head, All-tail, All-weaker, All-from_get_or}
use Rattle.std.proofs.lemmas.List.Folds.{list_any_none}
use Rattle.std.proofs.lemmas.List.Splits.{join_with_byte-slice_split, slice_split-cons_yes, slice_split-cons_no}
use Rattle.std.proofs.lemmas.List.Sums.{AllPass-from_list_all}
use Rattle.std.proofs.lemmas.Str.Ascii.{IsAscii-from_all}
use Rattle.std.proofs.lemmas.Bool.Decides.{nat_tests}
use Rattle.ucd_bidi.specs.BidiClass.{bidi_class}
use Rattle.ucd_bidi.specs.BidiClassRows.{bidi_class_rows}
use Rattle.ucd_table.specs.Rows.{value_in}
use Rattle.strkw_text.specs.Abnf.{SeparatedBy}
use Rattle.strkw_text.proofs.AsciiForms.{IsAscii-joined}
use Rattle.strkw_net.proofs.HostNameLemmas.{parts}
use Rattle.strkw_label.specs.BidiRule.{is_right_to_left, is_right_to_left_label}
use Rattle.strkw_label.specs.IdnHostName.{IsIdnHostName, IsPlainLabel, StandsFor, encoded_form, is_label_separator}
use Rattle.strkw_label.proofs.IdnLabels.{label_is_ascii, encoded_plain}
use Rattle.strkw_label.proofs.PlainLabels.{plain_by_parts}

-- the test for a direction fails at each number below 128, as one test of all of them
ascii : agree_below (λ c. is_right_to_left (bidi_class c)) (λ c. false) 128 ≡ true
unfolding bidi_class bidi_class_rows value_in
ascii = refl

-- no ASCII character runs from right to left
ascii_is_no_direction : (c : ℕ) → is_ascii c ≡ true → is_right_to_left (bidi_class c) ≡ false
ascii_is_no_direction c e = agree_below_at (λ x. is_right_to_left (bidi_class x)) (λ x. false) 128 c ascii (ltb-true c 128 e)

-- the separator of ASCII is the full stop
ascii_separator : (c : ℕ) → c < 128 → is_label_separator c ≡ (c == 46)
ascii_separator c lt = grind (arith, nat_tests)

-- a text splits alike at what two tests tell, where they agree on its characters
split_same : (p q : ℕ → Bool) (xs : List ℕ) → All (λ c. p c ≡ q c) xs → slice_split p xs ≡ slice_split q xs
split_same p q [] h = refl
split_same p q (x ∷ xs) h =
    let more = split_same p q xs (All-tail (λ c. p c ≡ q c) x xs h) in
    let here : p x ≡ q x = All-head (λ c. p c ≡ q c) x xs h in
    elim (cases_Bool (p x)) [
      | inl e ↦ slice_split-cons_yes p x xs e ∙ ap (λ ys. [] ∷ ys) more ∙ sym (slice_split-cons_yes q x xs (sym here ∙ e))
      | inr e ↦ slice_split-cons_no p x xs e ∙ ap (onto_first x) more ∙ sym (slice_split-cons_no q x xs (sym here ∙ e))
    ]

-- each label stands for itself
stand : (labels : List (List ℕ)) → AllByRecursion IsPlainLabel labels → AllZip StandsFor labels labels
stand [] h = tt
stand (label ∷ labels) h = (inl (h.0, refl), stand labels h.1)

-- and is its encoded form
encoded : (labels : List (List ℕ)) → AllByRecursion IsPlainLabel labels → map encoded_form labels ≡ labels
encoded [] h = refl
encoded (label ∷ labels) h = ap₂ ◌∷◌ (encoded_plain label (label_is_ascii label h.0.ascii)) (encoded labels h.1)

-- no label runs from right to left
no_direction : (labels : List (List ℕ)) → AllByRecursion IsPlainLabel labels → list_any is_right_to_left_label labels ≡ false
no_direction [] h = refl
no_direction (label ∷ labels) h =
    let each = All-weaker (λ c. is_ascii c ≡ true) (λ c. is_right_to_left (bidi_class c) ≡ false) ascii_is_no_direction label
    (AllPass-from_list_all is_ascii label (label_is_ascii label h.0.ascii)) in
    ap₂ (λ x y. x || y) (list_any_none (λ c. is_right_to_left (bidi_class c)) label each) (no_direction labels h.1)

-- the labels are ASCII
each_ascii : (labels : List (List ℕ)) → AllByRecursion IsPlainLabel labels → AllByRecursion IsAscii labels
each_ascii [] h = tt
each_ascii (label ∷ labels) h = (
  IsAscii-from_all label (All-weaker (λ c. is_ascii c ≡ true) (λ c. c < 128) (λ c e. ltb-true c 128 e) label
      (AllPass-from_list_all is_ascii label (label_is_ascii label h.0.ascii))),
  each_ascii labels h.1,
)

-- at most 253 bytes that are NR-LDH labels with full stops between them are an internationalised host name
pub plain_name : (bs : List ℕ) → length bs ≤ 253 → SeparatedBy 46 IsPlainLabel bs → IsIdnHostName bs × IsAscii bs
plain_name bs few name =
    let h = (plain_by_parts bs).0 name in
    let joined = join_with_byte-slice_split 46 bs in
    let all : IsAscii bs = subst IsAscii joined (IsAscii-joined 46 (parts bs) (lit< tt) (each_ascii (parts bs) h)) in
    let same : slice_split is_label_separator bs ≡ parts bs =
    split_same is_label_separator (λ c. c == 46) bs (All-from_get_or (λ c. is_label_separator c ≡ (c == 46)) bs 0 (λ k lt. ascii_separator _ (all k))) in (
      record {
        forms = parts bs;
        labels = subst (λ x. AllZip StandsFor x (parts bs)) (sym same) (stand (parts bs) h);
        bidi = λ b. absurd (false≢true (sym (no_direction (parts bs) h) ∙ b));
        size = subst (λ x. length x ≤ 253) (sym (ap (join_with_byte 46) (encoded (parts bs) h) ∙ joined)) few;
      },
      all,
    )
