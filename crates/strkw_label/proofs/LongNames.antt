-- An internationalised host name has at most 253 characters, in bytes at most four times as many.
use Rattle.std.proofs.Common.{◌≡◌, ℕ, ◌+◌, ◌*◌, ◌<◌, ◌≤◌, Bool, true, List, [], ◌∷◌, length, inl, inr, refl, ap, subst, arith}
use Rattle.std.proofs.Common.{length-append}
use Rattle.std.specs.List.{AllZip, onto_first, slice_split}
use Rattle.std.specs.Str.{IsAscii, IsUtf8, chars}
use Rattle.std.proofs.Math.Utf8.{encode, encodes}
use Rattle.std.proofs.lemmas.Bool.{cases_Bool}
use Rattle.std.proofs.lemmas.List.Splits.{length-slice_split, slice_split-cons_yes, slice_split-cons_no}
use Rattle.std.proofs.lemmas.List.Sums.{sum_by-cons}
use Rattle.std.proofs.lemmas.Str.{chars-IsAscii, encodes-chars, length-encode, len_utf8_bounds}
use Rattle.strkw_label.specs.IdnHostName.{IsIdnHostName, StandsFor, encoded_form, is_all_ascii, is_label_separator}
use Rattle.strkw_label.proofs.EncodedLengths.{text_length}
use Rattle.strkw_label.proofs.IdnLabels.{a_label_length, encoded_plain, encoded_unicode, label_is_ascii, length_from_a_label}
use Rattle.strkw_label.proofs.IdnHostNames.{counted, counted_forms, name_fits}

-- a character has at most four bytes
at_most_four : (cs : List ℕ) → length (encodes cs) ≤ 4 * length cs
at_most_four [] = omega arith
at_most_four (c ∷ cs) = omega (arith, at_most_four cs, length-append (encode c) (encodes cs), length-encode c, (len_utf8_bounds c).1)

-- more than 1012 bytes are more than 253 characters
pub many_bytes : (text : List ℕ) → IsUtf8 text → 1012 < length text → 253 < length (chars text)
many_bytes text utf8 many = omega (arith, at_most_four (chars text), ap length (encodes-chars text utf8))

-- more than 253 bytes of ASCII are as many characters
pub many_in_ascii : (text : List ℕ) → IsAscii text → 253 < length text → 253 < length (chars text)
many_in_ascii text ascii many = omega (arith, ap length (chars-IsAscii text ascii))

-- a label is no longer than the encoded form of what it stands for
shorter : (label form : List ℕ) → StandsFor label form → length label ≤ length (encoded_form form)
shorter label form (inl (plain, e)) =
    let same = encoded_plain form (subst (λ x. is_all_ascii x ≡ true) e (label_is_ascii label plain.ascii)) in
    omega (arith, ap length e, ap length same)
shorter label form (inr (scalars, rules, fits, inl e)) =
    omega (arith, ap length e, text_length form scalars, a_label_length form, ap length (encoded_unicode form rules.beyond_ascii))
shorter label form (inr (scalars, rules, fits, inr e)) = omega (arith, length_from_a_label label form e rules.beyond_ascii)

-- labels in a row have no more characters than what they stand for
all_shorter : (labels forms : List (List ℕ)) → AllZip StandsFor labels forms → counted labels ≤ counted_forms forms
all_shorter [] [] h = omega arith
all_shorter [] (form ∷ forms) h = absurd h
all_shorter (label ∷ labels) [] h = absurd h
all_shorter (label ∷ labels) (form ∷ forms) h =
    let here = sum_by-cons (λ (x : List ℕ). length x + 1) label labels in
    let there = sum_by-cons (λ (x : List ℕ). length (encoded_form x) + 1) form forms in
    omega (arith, here, there, shorter label form h.0, all_shorter labels forms h.1)

-- a character more in the first part
counted-onto_first : (c : ℕ) (parts : List (List ℕ)) → 0 < length parts → counted (onto_first c parts) ≡ counted parts + 1
counted-onto_first c [] some = absurd (omega arith)
counted-onto_first c (part ∷ parts) some =
    let longer = sum_by-cons (λ (x : List ℕ). length x + 1) (c ∷ part) parts in
    let before = sum_by-cons (λ (x : List ℕ). length x + 1) part parts in
    omega (arith, longer, before)

-- the parts of a text have its characters, but for the separators
counted-split : (p : ℕ → Bool) (text : List ℕ) → counted (slice_split p text) ≡ length text + 1
counted-split p [] = refl
counted-split p (c ∷ text) =
    let parts = slice_split p text in
    let more = counted-split p text in
    elim (cases_Bool (p c)) [
      | inl e ↦
          let whole = ap counted (slice_split-cons_yes p c text e) in
          omega (arith, whole, sum_by-cons (λ (x : List ℕ). length x + 1) [] parts, more)
      | inr e ↦
          let whole = ap counted (slice_split-cons_no p c text e) in
          omega (arith, whole, counted-onto_first c parts (omega (arith, length-slice_split p text)), more)
    ]

-- a host name has at most 253 characters
pub name_is_short : (text : List ℕ) → IsIdnHostName text → length text ≤ 253
name_is_short text name =
    let fits = (name_fits name.forms).0 name.size in
    omega (arith, counted-split is_label_separator text, all_shorter (slice_split is_label_separator text) name.forms name.labels, fits)
