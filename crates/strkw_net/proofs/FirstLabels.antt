-- The label at the front of a text, and the run of letters, digits and hyphens that the code reads there.
use Rattle.std.proofs.Common.{◌≡◌, ◌↔◌, ℕ, ◌+◌, ◌-◌, ◌<◌, ◌≤◌, ◌⊎◌, Bool, true, false, not, cond, eqb, Some, None, List, [], ◌∷◌, length, get_or, take, drop}
use Rattle.std.proofs.Common.{sym, ap, subst, ◌∙◌, arith, inl, inr}
use Rattle.std.specs.Option.{unwrap_or}
use Rattle.std.proofs.lemmas.Bool.{not-true, not-false, cases_lt, lt-ltb, le-ltb, eqb-true, eq-eqb}
use Rattle.std.specs.List.{AllByRecursion, position, prefix_len, position_or_len, before_first}
use Rattle.std.proofs.lemmas.Bool.Decides.{nat_tests}
use Rattle.std.proofs.lemmas.List.{length-take-le, get_or-take, take_all}
use Rattle.std.proofs.lemmas.List.Sums.{prefix_len-le-length, prefix_len_is, prefix_len_passes, position_or_len_is, passes_at_first, fails_before_first}
use Rattle.std.proofs.lemmas.List.Splits.{slice_split_none, slice_split_first}
use Rattle.strkw_text.specs.Abnf.{Form}
use Rattle.strkw_net.specs.HostName.{IsLabel, is_letter_digit_hyphen}
use Rattle.strkw_net.proofs.HostNameLemmas.{parts}

-- how many letters, digits and hyphens a text begins with
abbrev pub run : List ℕ → ℕ
run bs = prefix_len is_letter_digit_hyphen bs

-- where the first dot of a text stands, or the length of a text without one
abbrev first_dot : List ℕ → ℕ
first_dot bs = position_or_len (λ c. eqb c 46) bs

-- what stands before the first dot of a text, or all of a text without one
abbrev pub front : List ℕ → List ℕ
front bs = before_first (λ c. eqb c 46) bs

-- a letter, a digit or a hyphen is no dot
class_no_dot : (c : ℕ) → is_letter_digit_hyphen c ≡ true → eqb c 46 ≡ false
class_no_dot c h = grind (arith, nat_tests)

-- a dot is no letter, digit or hyphen
dot_no_class : (c : ℕ) → eqb c 46 ≡ true → is_letter_digit_hyphen c ≡ false
dot_no_class c h = grind (arith, nat_tests)

-- what stands before the first dot is as long as the place of the dot
length-front : (bs : List ℕ) → length (front bs) ≡ first_dot bs
length-front bs = length-take-le (first_dot bs) bs (prefix_len-le-length _ bs)

-- a run that ends at a dot, or with the text, ends where the first dot stands
pub run_to_dot : (bs : List ℕ) → (run bs < length bs → get_or bs (run bs) 0 ≡ 46) → first_dot bs ≡ run bs
run_to_dot bs stop =
    position_or_len_is (λ c. eqb c 46) bs (run bs) 0 (prefix_len-le-length is_letter_digit_hyphen bs)
    (λ k h. class_no_dot (get_or bs k 0) (prefix_len_passes is_letter_digit_hyphen bs k 0 h))
    (λ h. eq-eqb (get_or bs (run bs) 0) 46 (stop h))

-- a label before the first dot is the run
pub label_is_run : (bs : List ℕ) → IsLabel (front bs) → run bs ≡ first_dot bs
label_is_run bs w =
    prefix_len_is is_letter_digit_hyphen bs (first_dot bs) 0 (prefix_len-le-length _ bs)
    (λ k h. ap is_letter_digit_hyphen (sym (get_or-take (first_dot bs) bs k 0 h)) ∙ w.letters k 0 (omega (arith, length-front bs)))
    (λ h. dot_no_class (get_or bs (first_dot bs) 0) (passes_at_first (λ c. eqb c 46) bs 0 h))

-- how far a test passes from the front is where it first fails, or the length
not_not : (p : ℕ → Bool) (bs : List ℕ) → position_or_len (λ b. not (p b)) bs ≡ prefix_len p bs
not_not p bs = sym (prefix_len_is p bs (position_or_len (λ b. not (p b)) bs) 0 (prefix_len-le-length _ bs)
    (λ k h. not-false _ (fails_before_first (λ b. not (p b)) bs k 0 h)) (λ h. not-true _ (passes_at_first (λ b. not (p b)) bs 0 h)))

-- the place of the first byte that is none of them, or the length
pub run_by_position : (bs : List ℕ) → unwrap_or (position (λ b. not (is_letter_digit_hyphen b)) bs) (length bs) ≡ run bs
run_by_position bs =
    let n = position_or_len (λ b. not (is_letter_digit_hyphen b)) bs in
    let le : n ≤ length bs = prefix_len-le-length _ bs in
    elim (cases_lt n (length bs)) [
      | inl less ↦ ap (λ b. unwrap_or (cond b (Some n) None) (length bs)) (lt-ltb _ _ less) ∙ not_not is_letter_digit_hyphen bs
      | inr more ↦ ap (λ b. unwrap_or (cond b (Some n) None) (length bs)) (le-ltb _ _ more) ∙ (let same : length bs ≡ n = omega arith in same)
          ∙ not_not is_letter_digit_hyphen bs
    ]

-- ---- what the code finds, where n is the run

-- and returns None
-- where the run is empty, or longer than 63, no label stands before the first dot
pub no_label_by_size : (bs : List ℕ) (n : ℕ) → n ≡ run bs → (1 ≤ n → 63 < n) → IsLabel (front bs) → ⊥
no_label_by_size bs n is out w = let m : n ≡ length (front bs) = is ∙ label_is_run bs w ∙ sym (length-front bs) in let far = out (omega (arith, m, w.size)) in
    omega (arith, m, far, w.size)

-- nor where the run begins or ends with a hyphen
pub no_label_by_hyphen : (bs : List ℕ) (n : ℕ) → n ≡ run bs → (get_or bs 0 0 ≡ 45) ⊎ (get_or bs (n - 1) 0 ≡ 45) → IsLabel (front bs) → ⊥
no_label_by_hyphen bs n is h w =
    let m : n ≡ length (front bs) = is ∙ label_is_run bs w ∙ sym (length-front bs) in
    let read = λ (k : ℕ) (lt : k < length (front bs)). get_or-take (first_dot bs) bs k 0 (omega (arith, length-front bs, lt)) in
    elim h [
      | inl first ↦ w.first (read 0 w.size.0 ∙ first)
      | inr last ↦ w.last (read (length (front bs) - 1) (omega (arith, w.size)) ∙ subst (λ n. get_or bs (n - 1) 0 ≡ 45) m last)
    ]

-- nor where another byte than a dot follows the run
pub no_label_by_end : (bs : List ℕ) (n : ℕ) → n ≡ run bs → n < length bs → (get_or bs n 0 ≡ 46 → ⊥) → IsLabel (front bs) → ⊥
no_label_by_end bs n is lt other w =
    let m : n ≡ first_dot bs = is ∙ label_is_run bs w in
    other (subst (λ n. get_or bs n 0 ≡ 46) (sym m) (eqb-true _ _ (passes_at_first (λ c. eqb c 46) bs 0 (omega (arith, m, lt)))))

-- and returns the run
-- a run of 1 to 63, before a dot or the end, without outer hyphens, is the label
pub run_is_label : (bs : List ℕ) (n : ℕ) → n ≡ run bs → 1 ≤ n → n ≤ 63 → (get_or bs 0 0 ≡ 45 → ⊥) → (get_or bs (n - 1) 0 ≡ 45 → ⊥)
    → (n < length bs → get_or bs n 0 ≡ 46)
    → (take n bs ≡ front bs) × IsLabel (take n bs)
run_is_label bs n is some few first last stop =
    let size : length (take n bs) ≡ n = length-take-le n bs (omega (arith, is, prefix_len-le-length is_letter_digit_hyphen bs)) in
    let read = λ (k d : ℕ) (lt : k < n). get_or-take n bs k d lt in (
      ap (λ m. take m bs) (is ∙ sym (run_to_dot bs (subst (λ m. m < length bs → get_or bs m 0 ≡ 46) is stop))),
      record {
        size = (omega (arith, size), omega (arith, size));
        letters = λ k d lt. ap is_letter_digit_hyphen (read k d (omega (arith, size, lt)))
            ∙ prefix_len_passes is_letter_digit_hyphen bs k d (omega (arith, size, lt, is));
        first = λ e. first (sym (read 0 0 (omega arith)) ∙ e);
        last = λ e. last (sym (read (n - 1) 0 (omega arith)) ∙ subst (λ m. get_or (take n bs) (m - 1) 0 ≡ 45) size e);
      },
    )

-- ---- the parts between dots, from the front

-- a text that is all before its first dot is its only part
pub parts_one : (bs : List ℕ) → length (front bs) ≡ length bs → parts bs ≡ front bs ∷ []
parts_one bs e =
    let all : first_dot bs ≡ length bs = sym (length-front bs) ∙ e in
    slice_split_none (λ c. eqb c 46) bs (λ k d lt. fails_before_first (λ c. eqb c 46) bs k d (omega (arith, all, lt)))
    ∙ ap (λ x. x ∷ []) (sym (take_all (first_dot bs) bs (omega (arith, all))))

-- of any other text, the parts are what stands before the first dot, and those of the rest
pub parts_more : (bs : List ℕ) → length (front bs) < length bs → parts bs ≡ front bs ∷ parts (drop (length (front bs) + 1) bs)
parts_more bs lt =
    slice_split_first (λ c. eqb c 46) bs 0 (omega (arith, length-front bs)) ∙ ap (λ n. front bs ∷ parts (drop (n + 1) bs)) (sym (length-front bs))

-- a text whose label at the front is all of it
-- has such labels, where this one is such
pub one_label : (A : Form) (bs label : List ℕ) → label ≡ front bs → length label ≡ length bs → A label → AllByRecursion A (parts bs)
one_label A bs label is all a = subst (AllByRecursion A) (sym (parts_one bs (ap length (sym is) ∙ all))) (subst A is a, tt)

-- a text in which more follows the label and its dot
-- has such labels exactly where what follows has, where this one is such
pub more_labels : (A : Form) (bs label rest : List ℕ) → label ≡ front bs → (length label ≡ length bs → ⊥) → A label → rest ≡ drop (length label + 1) bs
    → AllByRecursion A (parts rest) ↔ AllByRecursion A (parts bs)
more_labels A bs label rest is other a r =
    let less : length (front bs) < length bs = omega (arith, ap length is, other, length-front bs, prefix_len-le-length (λ c. not (eqb c 46)) bs) in
    let whole : parts bs ≡ front bs ∷ parts rest = parts_more bs less ∙ ap (λ l. front bs ∷ parts l) (ap (λ l. drop (length l + 1) bs) (sym is) ∙ sym r) in
    (λ h. subst (AllByRecursion A) (sym whole) (subst A is a, h), λ h. (subst (AllByRecursion A) whole h).1)

-- whose labels are such, has such a one at its front
pub front_label : (A : Form) (bs : List ℕ) → AllByRecursion A (parts bs) → A (front bs)
front_label A bs h = elim (cases_lt (length (front bs)) (length bs)) [
  | inl less ↦ (subst (AllByRecursion A) (parts_more bs less) h).0
  | inr more ↦ (subst (AllByRecursion A) (parts_one bs (omega (arith, more, length-front bs, prefix_len-le-length (λ c. not (eqb c 46)) bs))) h).0
]
