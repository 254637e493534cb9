-- A label by the grammar of RFC 1034.
use Rattle.std.proofs.Common.{◌≡◌, ◌≢◌, ◌↔◌, ℕ, ◌+◌, ◌-◌, ◌≤◌, IsTrue, true, List, [], ◌∷◌, ◌++◌, length, get_or, refl, ap, sym, ◌∙◌, subst, inl, inr, arith}
use Rattle.std.specs.List.{AllByRecursion}
use Rattle.std.specs.Char.{is_ascii_alphanumeric}
use Rattle.std.proofs.lemmas.Bool.Decides.{nat_tests}
use Rattle.std.proofs.lemmas.List.{length-append}
use Rattle.std.proofs.Math.Seq.{get_or-append_seam}
use Rattle.std.proofs.lemmas.List.Elements.{recursion_from_All, All-from_recursion}
use Rattle.strkw_text.specs.Abnf.{◌⨾◌, Optional, OneOf, Repeat}
use Rattle.strkw_text.proofs.Laws.{then, Repeat-nil, Repeat-cons}
use Rattle.strkw_text.proofs.Classes.{repeat_class}
use Rattle.strkw_net.specs.HostName.{IsLabel, is_letter_digit_hyphen}
use Rattle.strkw_net.specs.Spellings.{LetDig, LdhStr, Label}

-- each character of the text is a letter, a digit or a hyphen
abbrev Letters : List ℕ → Type 0
Letters text = AllByRecursion (λ c. is_letter_digit_hyphen c ≡ true) text

-- such a character that is no hyphen is a let-dig
let_dig : (c : ℕ) → is_letter_digit_hyphen c ≡ true → c ≢ 45 → LetDig (c ∷ [])
let_dig c h n = record { character = c; member = grind (arith, nat_tests); is = refl }

-- each such character alone is a let-dig-hyp
let_dig_hyp : (c : ℕ) → is_letter_digit_hyphen c ≡ true → OneOf is_letter_digit_hyphen (c ∷ [])
let_dig_hyp c h = record { character = c; member = h; is = refl }

-- an ldh-str, or nothing, is any number of such characters
as_repeat : (text : List ℕ) → Optional LdhStr text → Repeat (OneOf is_letter_digit_hyphen) text
as_repeat text (inl none) = subst (Repeat (OneOf is_letter_digit_hyphen)) (sym none) (Repeat-nil (OneOf is_letter_digit_hyphen))
as_repeat text (inr h) = subst (Repeat (OneOf is_letter_digit_hyphen)) h.joined (Repeat-cons (OneOf is_letter_digit_hyphen) h.front h.back h.first h.second)

-- what follows the first character
-- may be such characters, one at least, of which the last is no hyphen
rest_from_letters : (c : ℕ) (cs : List ℕ) → Letters (c ∷ cs) → get_or (c ∷ cs) (length cs) 0 ≢ 45 → (Optional LdhStr ⨾ LetDig) (c ∷ cs)
rest_from_letters c [] a last = then [] (c ∷ []) (c ∷ []) (inl refl) (let_dig c a.0 last) refl
rest_from_letters c (d ∷ ds) a last =
    let r = rest_from_letters d ds a.1 last in
    record {
      front = c ∷ r.front;
      back = r.back;
      first = inr (then (c ∷ []) r.front (c ∷ r.front) (let_dig_hyp c a.0) (as_repeat r.front r.first) refl);
      second = r.second;
      joined = ap (λ (x : List ℕ). c ∷ x) r.joined;
    }

-- such characters, one at least, with no hyphen first or last, are a label by the rule
rule_from_letters : (text : List ℕ) → 1 ≤ length text → Letters text → get_or text 0 0 ≢ 45 → get_or text (length text - 1) 0 ≢ 45 → Label text
rule_from_letters [] some a first last = absurd (omega arith)
rule_from_letters (c ∷ []) some a first last = then (c ∷ []) [] (c ∷ []) (let_dig c a.0 first) (inl refl) refl
rule_from_letters (c ∷ d ∷ ds) some a first last =
    let place : length (c ∷ d ∷ ds) - 1 ≡ length (d ∷ ds) = omega arith in
    let other : get_or (d ∷ ds) (length ds) 0 ≢ 45 = subst (λ n. get_or (c ∷ d ∷ ds) n 0 ≢ 45) place last in
    then (c ∷ []) (d ∷ ds) (c ∷ d ∷ ds) (let_dig c a.0 first) (inr (rest_from_letters d ds a.1 other)) refl

-- a letter or a digit is such a character, and no hyphen
letter_of : (c : ℕ) → IsTrue (is_ascii_alphanumeric c) → (is_letter_digit_hyphen c ≡ true) × (c ≢ 45)
letter_of c h = (grind (arith, nat_tests), λ e. grind (arith, nat_tests))

-- such characters behind such characters are such characters
letters_append : (xs ys : List ℕ) → Letters xs → Letters ys → Letters (xs ++ ys)
letters_append [] ys a b = b
letters_append (x ∷ xs) ys a b = (a.0, letters_append xs ys a.1 b)

-- letters between a first and a last that are no hyphens
-- are a label, where they are at most 63 in all
label_from_ends : (c z : ℕ) (middle text : List ℕ) → IsTrue (is_ascii_alphanumeric c) → IsTrue (is_ascii_alphanumeric z) → Letters middle
    → text ≡ (c ∷ middle) ++ z ∷ [] → length text ≤ 63 → IsLabel text
label_from_ends c z middle text first last a e few =
    let all : Letters text = subst Letters (sym e) (letters_append (c ∷ middle) (z ∷ []) ((letter_of c first).0, a) ((letter_of z last).0, tt)) in
    let size : length text ≡ length (c ∷ middle) + 1 = ap length e ∙ length-append (c ∷ middle) (z ∷ []) in
    let place : length ((c ∷ middle) ++ z ∷ []) - 1 ≡ length (c ∷ middle) = omega (arith, length-append (c ∷ middle) (z ∷ [])) in
    let at_last : get_or text (length text - 1) 0 ≡ z = ap (λ (x : List ℕ). get_or x (length x - 1) 0) e ∙ ap (λ n. get_or ((c ∷ middle) ++ z ∷ []) n 0) place
    ∙ get_or-append_seam (c ∷ middle) z [] 0 in
    record {
      size = (omega (arith, size), few);
      letters = All-from_recursion (λ (x : ℕ). is_letter_digit_hyphen x ≡ true) text all;
      first = λ h. (letter_of c first).1 (ap (λ (x : List ℕ). get_or x 0 0) (sym e) ∙ h);
      last = λ h. (letter_of z last).1 (sym at_last ∙ h);
    }

-- one letter or digit alone is a label
label_of_one : (c : ℕ) (text : List ℕ) → IsTrue (is_ascii_alphanumeric c) → text ≡ c ∷ [] → length text ≤ 63 → IsLabel text
label_of_one c text first e few =
    let letter = letter_of c first in
    record {
      size = (omega (arith, ap length e), few);
      letters = All-from_recursion (λ (x : ℕ). is_letter_digit_hyphen x ≡ true) text (subst Letters (sym e) (letter.0, tt));
      first = λ h. letter.1 (ap (λ (x : List ℕ). get_or x 0 0) (sym e) ∙ h);
      last = λ h. letter.1 (ap (λ (x : List ℕ). get_or x (length x - 1) 0) (sym e) ∙ h);
    }

-- a label by the rule, of at most 63 characters, is a label
label_from_rule : (text : List ℕ) → Label text → length text ≤ 63 → IsLabel text
label_from_rule text h few = by_rest h.second
  where
    c : ℕ
    c = h.first.character

    whole : text ≡ c ∷ h.back
    whole = sym h.joined ∙ ap (λ (x : List ℕ). x ++ h.back) h.first.is

    by_rest : Optional (Optional LdhStr ⨾ LetDig) h.back → IsLabel text
    by_rest (inl none) = label_of_one c text h.first.member (whole ∙ ap (λ (x : List ℕ). c ∷ x) none) few
    by_rest (inr r) =
        let middle = (repeat_class is_letter_digit_hyphen r.front).0 (as_repeat r.front r.first) in
        label_from_ends c r.second.character r.front text h.first.member r.second.member middle
        (whole ∙ ap (λ (x : List ℕ). c ∷ x) (sym r.joined ∙ ap (λ (x : List ℕ). r.front ++ x) r.second.is)) few

-- a text is a label exactly where the rule derives it and it has at most 63 characters
pub label_by_grammar : (text : List ℕ) → IsLabel text ↔ (Label text × (length text ≤ 63))
label_by_grammar text = (
  λ w. (rule_from_letters text w.size.0 (recursion_from_All (λ (x : ℕ). is_letter_digit_hyphen x ≡ true) text w.letters) w.first w.last, w.size.1),
  λ h. label_from_rule text h.0 h.1,
)
