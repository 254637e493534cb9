-- Internationalised host names: their labels one after another, and what the code keeps of them.
use Rattle.std.proofs.Common.{◌≡◌, ℕ, ◌+◌, ◌≤◌, ◌↔◌, Bool, true, false, ◌||◌, ◌&&◌, List, [], ◌∷◌, ◌++◌, length, map, min, All}
use Rattle.std.proofs.Common.{Option, Some, None, IfSome, inl, inr, refl, sym, ap, ap₂, subst, ◌∙◌, arith, append_assoc, append-nil, length-append}
use Rattle.std.specs.Prelude.{IsTrue}
use Rattle.std.specs.Borrow.{Bor}
use Rattle.std.specs.Char.{IsScalar}
use Rattle.std.specs.List.{AllZip, join_with_byte, list_any, slice_split, sum_by}
use Rattle.std.specs.Option.{option_map_or}
use Rattle.std.proofs.Math.Nat.{min-eq_left, min-eq_right, min-le_right}
use Rattle.std.proofs.lemmas.Bool.{cases_lt, false≢true}
use Rattle.std.proofs.lemmas.List.Elements.{All-append, All-cons, All-nil, All-head, All-tail}
use Rattle.std.proofs.lemmas.List.Folds.{list_any-append}
use Rattle.std.proofs.lemmas.List.Sums.{sum_by-append, sum_by-cons}
use Rattle.strkw_label.specs.BidiRule.{KeepsBidiRule, is_right_to_left_label}
use Rattle.strkw_label.specs.IdnHostName.{IsIdnHostName, StandsFor, encoded_form, is_label_separator}
use Rattle.strkw_label.specs.LabelFacts.{AreFactsOf, AreFactsOfAll}
use Rattle.strkw_label.specs.declared.idn_host_name.LabelFacts.{LabelFacts}
use Rattle.strkw_label.specs.declared.idn_host_name.NameFacts.{NameFacts}
use Rattle.strkw_label.proofs.IdnLabels.{one_form}

-- ---- pairs of lists

module _ {A B : Type 0} (R : A → B → Type 0) where
  -- one pair more at the end
  pub zip_push : (xs : List A) (ys : List B) (x : A) (y : B) → AllZip R xs ys → R x y → AllZip R (xs ++ x ∷ []) (ys ++ y ∷ [])
  zip_push [] [] x y h r = (r, tt)
  zip_push [] (z ∷ ys) x y h r = absurd h
  zip_push (z ∷ xs) [] x y h r = absurd h
  zip_push (z ∷ xs) (w ∷ ys) x y h r = (h.0, zip_push xs ys x y h.1 r)

  -- an element in the middle has its partner
  pub zip_middle : (xs : List A) (x : A) (more : List A) (ys : List B) → AllZip R (xs ++ x ∷ more) ys → (y : B) × R x y
  zip_middle [] x more [] h = absurd h
  zip_middle [] x more (y ∷ ys) h = (y, h.0)
  zip_middle (z ∷ xs) x more [] h = absurd h
  zip_middle (z ∷ xs) x more (y ∷ ys) h = zip_middle xs x more ys h.1

  -- where each element has one partner at most, the partners are one list
  pub zip_unique : ((x : A) (y z : B) → R x y → R x z → y ≡ z) → (xs : List A) (ys zs : List B) → AllZip R xs ys → AllZip R xs zs → ys ≡ zs
  zip_unique one [] [] [] h k = refl
  zip_unique one [] [] (z ∷ zs) h k = absurd k
  zip_unique one [] (y ∷ ys) zs h k = absurd h
  zip_unique one (x ∷ xs) [] zs h k = absurd h
  zip_unique one (x ∷ xs) (y ∷ ys) [] h k = absurd k
  zip_unique one (x ∷ xs) (y ∷ ys) (z ∷ zs) h k = ap₂ ◌∷◌ (one x y z h.0 k.0) (zip_unique one xs ys zs h.1 k.1)

-- ---- lengths

-- the lengths of texts, with one more for each
abbrev pub counted : List (List ℕ) → ℕ
counted texts = sum_by (λ text. length text + 1) texts

-- texts joined by a character have one character less than that
pub joined_length : (c : ℕ) (text : List ℕ) (texts : List (List ℕ)) → length (join_with_byte c (text ∷ texts)) + 1 ≡ counted (text ∷ texts)
joined_length c text [] = let count = sum_by-cons (λ (x : List ℕ). length x + 1) text [] in omega (arith, count)
joined_length c text (next ∷ texts) =
    let more = joined_length c next texts in
    let count = sum_by-cons (λ (x : List ℕ). length x + 1) text (next ∷ texts) in
    let whole : length (join_with_byte c (text ∷ next ∷ texts)) ≡ length text + length (c ∷ join_with_byte c (next ∷ texts)) =
    length-append text (c ∷ join_with_byte c (next ∷ texts)) in
    omega (arith, count, whole)

-- the lengths of the encoded forms, with one more for each
abbrev pub counted_forms : List (List ℕ) → ℕ
counted_forms forms = sum_by (λ form. length (encoded_form form) + 1) forms

-- the two counts agree
counted_encoded : (forms : List (List ℕ)) → counted (map encoded_form forms) ≡ counted_forms forms
counted_encoded [] = refl
counted_encoded (form ∷ forms) =
    sum_by-cons (λ (x : List ℕ). length x + 1) (encoded_form form) (map encoded_form forms)
    ∙ ap (λ n. length (encoded_form form) + 1 + n) (counted_encoded forms)
    ∙ sym (sum_by-cons (λ (x : List ℕ). length (encoded_form x) + 1) form forms)

-- the joined forms have at most 253 characters exactly where the count is at most 254
pub name_fits : (forms : List (List ℕ)) → (length (join_with_byte 46 (map encoded_form forms)) ≤ 253) ↔ (counted_forms forms ≤ 254)
name_fits [] = (λ h. omega arith, λ h. omega arith)
name_fits (form ∷ forms) =
    let joined = joined_length 46 (encoded_form form) (map encoded_form forms) in
    let same = counted_encoded (form ∷ forms) in
    (λ h. omega (arith, joined, same), λ h. omega (arith, joined, same))

-- ---- facts

-- the count up to 255 with one label more
capped_sum : (s l r : ℕ) → r ≡ min (min 255 s + l + 1) 255 → r ≡ min 255 (s + (l + 1))
capped_sum s l r e =
    elim (cases_lt s 255) [
      | inl lt ↦
          let inner : min 255 s ≡ s = min-eq_right (omega arith) in
          let now : r ≡ min (s + l + 1) 255 = e ∙ ap (λ x. min (x + l + 1) 255) inner in
          elim (cases_lt (s + l + 1) 255) [
            | inl small ↦
                let left : min (s + l + 1) 255 ≡ s + l + 1 = min-eq_left (omega arith) in
                let right : min 255 (s + (l + 1)) ≡ s + (l + 1) = min-eq_right (omega arith) in
                omega (arith, now, left, right)
            | inr large ↦
                let left : min (s + l + 1) 255 ≡ 255 = min-eq_right (omega arith) in
                let right : min 255 (s + (l + 1)) ≡ 255 = min-eq_left (omega arith) in
                omega (arith, now, left, right)
          ]
      | inr ge ↦
          let inner : min 255 s ≡ 255 = min-eq_left (omega arith) in
          let now : r ≡ min (255 + l + 1) 255 = e ∙ ap (λ x. min (x + l + 1) 255) inner in
          let left : min (255 + l + 1) 255 ≡ 255 = min-eq_right (omega arith) in
          let right : min 255 (s + (l + 1)) ≡ 255 = min-eq_left (omega arith) in
          now ∙ left ∙ sym right
    ]

-- a test of the last element of a list, or of one before it
any_push : {X : Type 0} (p : X → Bool) (xs : List X) (x : X) → list_any p (xs ++ x ∷ []) ≡ (list_any p xs || p x)
any_push p xs x = list_any-append p xs (x ∷ []) ∙ ap (λ b. list_any p xs || b) (or_false (p x))
  where
    -- `false` on the right changes nothing
    or_false : (b : Bool) → (b || false) ≡ b
    or_false true = refl
    or_false false = refl

-- the labels keep the rule where the ones before the last do, and the last does
both : (a b : Bool) (forms : List (List ℕ)) (form : List ℕ) → IsTrue a ↔ All KeepsBidiRule forms → IsTrue b ↔ KeepsBidiRule form
    → IsTrue (a && b) ↔ All KeepsBidiRule (forms ++ form ∷ [])
both true b forms form h k = (
  λ e. All-append KeepsBidiRule forms (form ∷ []) (h.0 refl) (All-cons KeepsBidiRule form [] (k.0 e) (All-nil KeepsBidiRule)),
  λ all. k.1 (All-head KeepsBidiRule form [] (back forms all)),
)
  where
    -- what holds of all holds of the last
    back : (xs : List (List ℕ)) → All KeepsBidiRule (xs ++ form ∷ []) → All KeepsBidiRule (form ∷ [])
    back [] all = all
    back (x ∷ xs) all = back xs (All-tail KeepsBidiRule x (xs ++ form ∷ []) all)
both false b forms form h k = (λ e. absurd (false≢true e), λ all. h.1 (front forms all))
  where
    -- what holds of all holds of those before the last
    front : (xs : List (List ℕ)) → All KeepsBidiRule (xs ++ form ∷ []) → All KeepsBidiRule xs
    front [] all = All-nil KeepsBidiRule
    front (x ∷ xs) all = All-cons KeepsBidiRule x xs (All-head KeepsBidiRule x (xs ++ form ∷ []) all)
        (front xs (All-tail KeepsBidiRule x (xs ++ form ∷ []) all))

-- the facts of labels in a row with those of one label more
pub facts_push : (now before : NameFacts) (label : LabelFacts) (forms : List (List ℕ)) (form : List ℕ)
    → now.encoded_length ≡ min (before.encoded_length + label.encoded_length + 1) 255
    → now.is_bidi ≡ (before.is_bidi || label.is_right_to_left) → now.keeps_bidi_rule ≡ (before.keeps_bidi_rule && label.keeps_bidi_rule)
    → AreFactsOfAll before forms → AreFactsOf label form → AreFactsOfAll now (forms ++ form ∷ [])
facts_push now before label forms form long bidi keeps all one =
    let sum = sum_by-append (λ x. length (encoded_form x) + 1) forms (form ∷ []) in
    record {
      encoded_length =
          capped_sum (counted_forms forms) (length (encoded_form form)) now.encoded_length
          (long ∙ ap₂ (λ x y. min (x + y + 1) 255) all.encoded_length one.encoded_length)
          ∙ ap (λ n. min 255 n) (omega (arith, sum));
      is_bidi = bidi ∙ ap₂ (λ x y. x || y) all.is_bidi one.is_right_to_left ∙ sym (any_push is_right_to_left_label forms form);
      keeps_bidi_rule = subst (λ b. IsTrue b ↔ All KeepsBidiRule (forms ++ form ∷ [])) (sym keeps)
          (both before.keeps_bidi_rule label.keeps_bidi_rule forms form all.keeps_bidi_rule one.keeps_bidi_rule);
    }

-- no label has been seen
pub no_facts : (facts : NameFacts) → facts.encoded_length ≡ 0 → facts.is_bidi ≡ false → facts.keeps_bidi_rule ≡ true → AreFactsOfAll facts []
no_facts facts long bidi keeps = record { encoded_length = long; is_bidi = bidi; keeps_bidi_rule = (λ e. All-nil KeepsBidiRule, λ all. keeps) }

-- ---- a name, read label after label

-- the labels that are left
abbrev pub labels_left : Option (Bor (List ℕ)) → List (List ℕ)
labels_left left = option_map_or (λ rest. slice_split is_label_separator rest.now) left []

-- the labels so far stand for forms with these facts
pub record NameSoFar (text : List ℕ) (left : Option (Bor (List ℕ))) (facts : NameFacts) : Type 0 where
  pub done : List (List ℕ)
  pub forms : List (List ℕ)
  pub split : slice_split is_label_separator text ≡ done ++ labels_left left
  pub stand : AllZip StandsFor done forms
  pub known : AreFactsOfAll facts forms
  pub capped : facts.encoded_length ≤ 255
  pub scalar : IfSome left (λ rest. All IsScalar rest.now)

-- before the first label
pub name_start : (text : Bor (List ℕ)) (facts : NameFacts) → All IsScalar text.now → AreFactsOfAll facts [] → facts.encoded_length ≤ 255
    → NameSoFar text.now (Some text) facts
name_start text facts scalar known capped =
    record { done = []; forms = []; split = refl; stand = tt; known = known; capped = capped; scalar = scalar }

-- with one label more
pub name_step : (text : List ℕ) (rest : Bor (List ℕ)) (label : List ℕ) (after : Option (Bor (List ℕ))) (facts now : NameFacts) (more : LabelFacts)
    → NameSoFar text (Some rest) facts → slice_split is_label_separator rest.now ≡ label ∷ labels_left after
    → (form : List ℕ) × StandsFor label form × AreFactsOf more form
    → ((forms : List (List ℕ)) (form : List ℕ) → AreFactsOfAll facts forms → AreFactsOf more form → AreFactsOfAll now (forms ++ form ∷ []))
    → now.encoded_length ≤ 255 → IfSome after (λ rest. All IsScalar rest.now) → NameSoFar text after now
name_step text rest label after facts now more s parts one push capped scalar = record {
  done = s.done ++ label ∷ [];
  forms = s.forms ++ one.0 ∷ [];
  split = s.split ∙ ap (λ x. s.done ++ x) parts ∙ sym (append_assoc s.done (label ∷ []) (labels_left after));
  stand = zip_push StandsFor s.done s.forms label one.0 s.stand one.1;
  known = push s.forms one.0 s.known one.2;
  capped = capped;
  scalar = scalar;
}

-- a label that stands for nothing makes no name
pub name_stop : (text : List ℕ) (rest : Bor (List ℕ)) (label : List ℕ) (after : Option (Bor (List ℕ))) (facts : NameFacts)
    → NameSoFar text (Some rest) facts → slice_split is_label_separator rest.now ≡ label ∷ labels_left after
    → ((form : List ℕ) → StandsFor label form → ⊥) → IsTrue false ↔ IsIdnHostName text
name_stop text rest label after facts s parts none = (
  λ t. absurd (false≢true t),
  λ w.
      let whole = subst (λ x. AllZip StandsFor x w.forms) (s.split ∙ ap (λ x. s.done ++ x) parts) w.labels in
      let found = zip_middle StandsFor s.done label (labels_left after) w.forms whole in
      absurd (none found.0 found.1),
)

-- at the end the facts tell
pub name_end : (text : List ℕ) (facts : NameFacts) (r : Bool) → NameSoFar text None facts
    → IsTrue r ↔ ((facts.encoded_length ≤ 254) × (IsTrue facts.is_bidi → IsTrue facts.keeps_bidi_rule)) → IsTrue r ↔ IsIdnHostName text
name_end text facts r s told =
    let all : slice_split is_label_separator text ≡ s.done = s.split ∙ append-nil s.done in
    let stand : AllZip StandsFor (slice_split is_label_separator text) s.forms = subst (λ x. AllZip StandsFor x s.forms) (sym all) s.stand in
    let count = counted_forms s.forms in (
      λ t.
          let p = told.0 t in
          record {
            forms = s.forms;
            labels = stand;
            bidi = λ b. s.known.keeps_bidi_rule.0 (p.1 (s.known.is_bidi ∙ b));
            size = (name_fits s.forms).1 (uncapped facts.encoded_length count s.known.encoded_length p.0);
          },
      λ w.
          let same : s.forms ≡ w.forms = zip_unique StandsFor one_form (slice_split is_label_separator text) s.forms w.forms stand w.labels in
          let fits = (name_fits s.forms).0 (subst (λ fs. length (join_with_byte 46 (map encoded_form fs)) ≤ 253) (sym same) w.size) in
          told.1 (
            recapped facts.encoded_length count s.known.encoded_length fits,
            λ b. s.known.keeps_bidi_rule.1 (subst (All KeepsBidiRule) (sym same)
                (w.bidi (subst (λ fs. IsTrue (list_any is_right_to_left_label fs)) same (sym s.known.is_bidi ∙ b)))),
          ),
    )
  where
    -- a count of at most 254 is the whole one
    uncapped : (n m : ℕ) → n ≡ min 255 m → n ≤ 254 → m ≤ 254
    uncapped n m e le =
        elim (cases_lt m 255) [
          | inl lt ↦ let small : min 255 m ≡ m = min-eq_right (omega arith) in omega (arith, e, small)
          | inr ge ↦ let large : min 255 m ≡ 255 = min-eq_left (omega arith) in absurd (omega (arith, e, large))
        ]

    -- and the whole one, if it is at most 254, is the count
    recapped : (n m : ℕ) → n ≡ min 255 m → m ≤ 254 → n ≤ 254
    recapped n m e le = omega (arith, e, min-le_right 255 m)
