-- The variables of a template's expression: each is read up to where it ends, and a comma or the closing brace follows.
use Rattle.std.proofs.Common.{◌≡◌, ◌↔◌, ◌⊎◌, ◌<◌, ◌≤◌, ℕ, Bool, true, false, eqb, ◌||◌, not, List, [], ◌∷◌, ◌++◌, inl, inr, refl, sym, ap, subst, ◌∙◌, arith}
use Rattle.std.specs.Char.{is_ascii_digit, is_ascii_hexdigit}
use Rattle.std.proofs.lemmas.Bool.{agree_below_at, cases_lt, not-true}
use Rattle.std.proofs.lemmas.Bool.Decides.{nat_tests}
use Rattle.strkw_text.specs.Abnf.{Form, ◌⨾◌, ◌∣◌, Literal, Empty, Optional, Repeat, Times, OneOf}
use Rattle.strkw_text.specs.Characters.{is_from_to, Digit}
use Rattle.strkw_text.specs.Delimiters.{Without}
use Rattle.strkw_text.specs.Fronts.{StartsWith, StartsWithNo, NotFirst, OptionThen, RunThen}
use Rattle.strkw_text.proofs.Delimiters.{then_without, repeat_without, times_without, one_without, optional_without, either_without, character_without}
use Rattle.strkw_text.proofs.Equivalences.{iff_trans, iff_sym}
use Rattle.strkw_text.proofs.Fronts.{greedy, greedy_drops}
use Rattle.strkw_text.proofs.Laws.{assoc, assoc3, front_cong, back_cong, either_then, optional_then, repeat_then, literal_at, literal_not, not_first}
use Rattle.strkw_text.proofs.Laws.{no_start_then, times_more, times_none, then_empty}
use Rattle.strkw_text.proofs.Optionals.{literal_ind, repeat_then_at, repeat_then_off}
use Rattle.strkw_text.proofs.Runs.{IsPrefixFree, OneOf-free, free_then, run_then, one_stops, differ}
use Rattle.strkw_uri.specs.Scan.{BehindVariable}
use Rattle.strkw_uri.specs.Template.{is_varchar, is_operator, Varchar, FurtherVarchar, Varname, MaxLength, ModifierLevel4, Varspec}
use Rattle.strkw_uri.specs.Template.{VariableList, OperatorAndVariables}
use Rattle.strkw_uri.specs.Uri.{Encoded}
use Rattle.strkw_uri.proofs.AsciiRuns.{implied}
use Rattle.strkw_uri.proofs.Encodings.{encoded_free, encoded_without, other_stops}
use Rattle.strkw_uri.proofs.Names.{further_free, no_further}

-- what a variable does not hold
module _ (w : ℕ) (low : w < 128) (class : ℕ → Bool) (name : class w ≡ false) (hex : is_ascii_hexdigit w ≡ false) (digit : is_ascii_digit w ≡ false)
    (first : is_from_to 49 57 w ≡ false)
    (dot : eqb 46 w ≡ false) (colon : eqb 58 w ≡ false) (star : eqb 42 w ≡ false) (percent : eqb 37 w ≡ false) where
  -- a modifier or nothing does not hold the character w
  modifier_without : (x : List ℕ) → Optional ModifierLevel4 x → Without w x
  modifier_without = optional_without w low _ (either_without w low _ _
      (then_without w low _ _ (character_without w low 58 colon)
      (then_without w low _ _ (one_without w low (is_from_to 49 57) first) (times_without w low 0 3 _ (one_without w low is_ascii_digit digit))))
      (character_without w low 42 star))

  -- nor does a character of the class or a percent-encoding
  char_without : (x : List ℕ) → Encoded class x → Without w x
  char_without = encoded_without w low class name percent hex

  -- nor do such characters, behind dots or not, and a modifier or nothing
  variable_without : (x : List ℕ) → ((Encoded class ⨾ Repeat (Optional (Literal (46 ∷ [])) ⨾ Encoded class)) ⨾ Optional ModifierLevel4) x → Without w x
  variable_without = then_without w low _ _ (then_without w low _ _ char_without
      (repeat_without w low _ (then_without w low _ _ (optional_without w low _ (character_without w low 46 dot)) char_without))) modifier_without

-- the closing brace is an ASCII character
pub brace_low : 125 < 128
brace_low = omega arith

-- a variable holds no closing brace
varspec_no_brace : (x : List ℕ) → Varspec x → Without 125 x
varspec_no_brace = variable_without 125 brace_low is_varchar refl refl refl refl refl refl refl refl

-- a list of variables holds no closing brace
list_no_brace : (x : List ℕ) → VariableList x → Without 125 x
list_no_brace = then_without 125 brace_low _ _ varspec_no_brace
    (repeat_without 125 brace_low _ (then_without 125 brace_low _ _ (character_without 125 brace_low 44 refl) varspec_no_brace))

-- an operator, or none, and variables hold no closing brace
pub no_brace : (x : List ℕ) → OperatorAndVariables x → Without 125 x
no_brace = then_without 125 brace_low _ _ (optional_without 125 brace_low _ (one_without 125 brace_low is_operator refl)) list_no_brace

-- what follows a variable
-- the tail
abbrev IsTail : List ℕ → Form
IsTail tail x = x ≡ tail

-- What holds of what begins with a comma and of what begins with a closing brace holds of what follows a variable.
behind_ind : (P : Form) → ((rest : List ℕ) → P (44 ∷ rest)) → ((rest : List ℕ) → P (125 ∷ rest)) → (tail x : List ℕ) → BehindVariable tail x → P x
behind_ind P comma brace tail x h =
    let closed = Literal (125 ∷ []) ⨾ IsTail tail in
    let more = Repeat (Literal (44 ∷ []) ⨾ Varspec) ⨾ closed in
    elim ((repeat_then (Literal (44 ∷ []) ⨾ Varspec) closed x).0 h) [
      | inl b ↦ literal_ind P 125 (IsTail tail) brace x b
      | inr r ↦ literal_ind P 44 (Varspec ⨾ more) comma x ((assoc (Literal (44 ∷ [])) Varspec more x).0 r)
    ]

-- it begins with no other character
behind_not : (c : ℕ) → eqb 44 c ≡ false → eqb 125 c ≡ false → (tail x : List ℕ) → BehindVariable tail x → NotFirst c x
behind_not c comma brace =
    behind_ind (NotFirst c) (λ rest. not_first 44 c _ rest refl (differ 44 c comma)) (λ rest. not_first 125 c _ rest refl (differ 125 c brace))

-- nor with a digit
behind_no_digit : (tail x : List ℕ) → BehindVariable tail x → StartsWithNo Digit x
behind_no_digit = behind_ind (StartsWithNo Digit) (λ rest. one_stops is_ascii_digit 44 _ rest refl refl) (λ rest. one_stops is_ascii_digit 125 _ rest refl refl)

-- nor with a further character of a name
behind_stops : (tail x : List ℕ) → BehindVariable tail x → StartsWithNo FurtherVarchar x
behind_stops = behind_ind (StartsWithNo FurtherVarchar) (no_further is_varchar refl refl 44 refl refl refl) (no_further is_varchar refl refl 125 refl refl refl)

-- behind a comma it is a variable, and what follows that
pub behind_comma : (tail text next : List ℕ) → text ≡ 44 ∷ next → BehindVariable tail text ↔ (Varspec ⨾ BehindVariable tail) next
behind_comma tail text next e = repeat_then_at 44 Varspec (Literal (125 ∷ []) ⨾ IsTail tail) text next e
    (literal_not (IsTail tail) 125 text (not_first 44 125 text next e (differ 44 125 refl)))

-- behind a closing brace it is the tail
pub behind_brace : (tail text rest : List ℕ) → text ≡ 125 ∷ rest → BehindVariable tail text ↔ (rest ≡ tail)
behind_brace tail text rest e = iff_trans
    (repeat_then_off 44 Varspec (Literal (125 ∷ []) ⨾ IsTail tail) text (not_first 125 44 text rest e (differ 125 44 refl)))
    (literal_at (IsTail tail) 125 text rest e)

-- a text that begins with a comma or with a closing brace
abbrev FirstBehind : Form
FirstBehind x = ((rest : List ℕ) × (x ≡ 44 ∷ rest)) ⊎ ((rest : List ℕ) × (x ≡ 125 ∷ rest))

-- what follows a variable is such a text
behind_first : (tail x : List ℕ) → BehindVariable tail x → FirstBehind x
behind_first = behind_ind FirstBehind (λ rest. inl (rest, refl)) (λ rest. inr (rest, refl))

-- and no other text is
pub behind_neither : (tail text : List ℕ) → NotFirst 44 text → NotFirst 125 text → BehindVariable tail text → ⊥
behind_neither tail text no_comma no_brace h = elim (behind_first tail text h) [
  | inl r ↦ no_comma r.0 r.1
  | inr r ↦ no_brace r.0 r.1
]

-- a length
-- where a digit ends is settled by the text
digit_free : IsPrefixFree Digit
digit_free = OneOf-free is_ascii_digit

-- at most three digits are three times a digit or nothing
three_optional : (text : List ℕ) → Times 0 3 Digit text ↔ (Optional Digit ⨾ Optional Digit ⨾ Optional Digit) text
three_optional text =
    let O = Optional Digit in
    let last : (x : List ℕ) → Times 0 1 Digit x ↔ O x = λ x. iff_trans (times_more 0 Digit x)
    (iff_trans (back_cong O (Times 0 0 Digit) Empty x (times_none Digit)) ((then_empty O x).1, (then_empty O x).0)) in
    let two : (x : List ℕ) → Times 0 2 Digit x ↔ (O ⨾ O) x = λ x. iff_trans (times_more 1 Digit x) (back_cong O (Times 0 1 Digit) O x last) in
    iff_trans (times_more 2 Digit text) (back_cong O (Times 0 2 Digit) (O ⨾ O) text two)

-- at most three digits before what follows a variable leave what is left when up to three are dropped
three_digits : (tail text a b c : List ℕ) → OptionThen Digit text a → OptionThen Digit a b → OptionThen Digit b c
    → (Times 0 3 Digit ⨾ BehindVariable tail) text ↔ BehindVariable tail c
three_digits tail text a b c f g h =
    let B = BehindVariable tail in
    let O = Optional Digit in
    let drops : (x y : List ℕ) → B x → StartsWith Digit x y → B y = λ x y behind digit. absurd (behind_no_digit tail x behind y digit) in
    let drops-one = greedy_drops Digit B digit_free drops in
    let drops-two = greedy_drops Digit (O ⨾ B) digit_free drops-one in
    iff_trans (front_cong (Times 0 3 Digit) (O ⨾ O ⨾ O) B text three_optional)
    (iff_trans (assoc3 O O O B text)
    (iff_trans (greedy Digit (O ⨾ O ⨾ B) text a digit_free drops-two f)
    (iff_trans (greedy Digit (O ⨾ B) a b digit_free drops-one g) (greedy Digit B b c digit_free drops h))))

-- so does a length, behind its first digit
pub length_leaves : (tail text rest a b c : List ℕ) → StartsWith (OneOf (is_from_to 49 57)) text rest → OptionThen Digit rest a → OptionThen Digit a b
    → OptionThen Digit b c → (MaxLength ⨾ BehindVariable tail) text ↔ BehindVariable tail c
length_leaves tail text rest a b c first f g h =
    let class = is_from_to 49 57 in
    iff_trans (assoc (OneOf class) (Times 0 3 Digit) (BehindVariable tail) text)
    (iff_trans (free_then (OneOf class) (Times 0 3 Digit ⨾ BehindVariable tail) text rest (OneOf-free class) first) (three_digits tail rest a b c f g h))

-- no length begins without that digit
pub no_length : (tail text : List ℕ) → StartsWithNo (OneOf (is_from_to 49 57)) text → (MaxLength ⨾ BehindVariable tail) text → ⊥
no_length tail text n h =
    let class = is_from_to 49 57 in
    no_start_then (OneOf class) (Times 0 3 Digit ⨾ BehindVariable tail) text n ((assoc (OneOf class) (Times 0 3 Digit) (BehindVariable tail) text).0 h)

-- a modifier or nothing, before what follows a variable
-- is a length behind a colon, nothing behind a star, or nothing
modifier_cases : (tail text : List ℕ) → (Optional ModifierLevel4 ⨾ BehindVariable tail) text
    ↔ (((Literal (58 ∷ []) ⨾ MaxLength ⨾ BehindVariable tail) ∣ (Literal (42 ∷ []) ⨾ BehindVariable tail)) ∣ BehindVariable tail) text
modifier_cases tail text =
    let B = BehindVariable tail in
    let optional = optional_then ModifierLevel4 B text in
    let either = either_then (Literal (58 ∷ []) ⨾ MaxLength) (Literal (42 ∷ [])) B text in
    let colon = assoc (Literal (58 ∷ [])) MaxLength B text in (
      λ h. elim (optional.0 h) [
        | inl m ↦ elim (either.0 m) [ inl l ↦ inl (inl (colon.0 l)) | inr s ↦ inl (inr s) ]
        | inr b ↦ inr b
      ],
      elim [
        | inl m ↦ optional.1 (inl (either.1 (elim m [ inl l ↦ inl (colon.1 l) | inr s ↦ inr s ])))
        | inr b ↦ optional.1 (inr b)
      ],
    )

-- behind a colon, a length is left
pub modifier_colon : (tail text rest : List ℕ) → text ≡ 58 ∷ rest
    → (Optional ModifierLevel4 ⨾ BehindVariable tail) text ↔ (MaxLength ⨾ BehindVariable tail) rest
modifier_colon tail text rest e =
    let cases = modifier_cases tail text in
    let colon = literal_at (MaxLength ⨾ BehindVariable tail) 58 text rest e in (
      λ h. elim (cases.0 h) [
        | inl m ↦ elim m [
          | inl l ↦ colon.0 l
          | inr s ↦ absurd (literal_not (BehindVariable tail) 42 text (not_first 58 42 text rest e (differ 58 42 refl)) s)
        ]
        | inr b ↦ absurd (behind_not 58 refl refl tail text b rest e)
      ],
      λ h. cases.1 (inl (inl (colon.1 h))),
    )

-- behind a star, nothing
pub modifier_star : (tail text rest : List ℕ) → NotFirst 58 text → text ≡ 42 ∷ rest
    → (Optional ModifierLevel4 ⨾ BehindVariable tail) text ↔ BehindVariable tail rest
modifier_star tail text rest n e =
    let cases = modifier_cases tail text in
    let star = literal_at (BehindVariable tail) 42 text rest e in (
      λ h. elim (cases.0 h) [
        | inl m ↦ elim m [ inl l ↦ absurd (literal_not (MaxLength ⨾ BehindVariable tail) 58 text n l) | inr s ↦ star.0 s ]
        | inr b ↦ absurd (behind_not 42 refl refl tail text b rest e)
      ],
      λ h. cases.1 (inl (inr (star.1 h))),
    )

-- and a text that begins with neither is left as it is
pub modifier_none : (tail text : List ℕ) → NotFirst 58 text → NotFirst 42 text
    → (Optional ModifierLevel4 ⨾ BehindVariable tail) text ↔ BehindVariable tail text
modifier_none tail text no_colon no_star =
    let cases = modifier_cases tail text in (
      λ h. elim (cases.0 h) [
        | inl m ↦ elim m [
          | inl l ↦ absurd (literal_not (MaxLength ⨾ BehindVariable tail) 58 text no_colon l)
          | inr s ↦ absurd (literal_not (BehindVariable tail) 42 text no_star s)
        ]
        | inr b ↦ b
      ],
      λ h. cases.1 (inr h),
    )

-- it begins with no further character of a name
modifier_stops : (tail x : List ℕ) → (Optional ModifierLevel4 ⨾ BehindVariable tail) x → StartsWithNo FurtherVarchar x
modifier_stops tail x h = elim ((modifier_cases tail x).0 h) [
  | inl m ↦ elim m [
    | inl l ↦ literal_ind (StartsWithNo FurtherVarchar) 58 (MaxLength ⨾ BehindVariable tail) (no_further is_varchar refl refl 58 refl refl refl) x l
    | inr s ↦ literal_ind (StartsWithNo FurtherVarchar) 42 (BehindVariable tail) (no_further is_varchar refl refl 42 refl refl refl) x s
  ]
  | inr b ↦ behind_stops tail x b
]

-- a variable
-- what follows its first character
abbrev Others : List ℕ → Form
Others tail = Repeat FurtherVarchar ⨾ Optional ModifierLevel4 ⨾ BehindVariable tail

-- a variable is a character of a name and what follows it
variable_first : (tail text : List ℕ) → (Varspec ⨾ BehindVariable tail) text ↔ (Varchar ⨾ Others tail) text
variable_first tail text =
    iff_trans (assoc Varname (Optional ModifierLevel4) (BehindVariable tail) text)
    (assoc Varchar (Repeat FurtherVarchar) (Optional ModifierLevel4 ⨾ BehindVariable tail) text)

-- a variable leaves what a modifier or nothing leaves behind its name
pub variable_leaves : (tail text first rest : List ℕ) → StartsWith Varchar text first → RunThen FurtherVarchar first rest
    → (Varspec ⨾ BehindVariable tail) text ↔ (Optional ModifierLevel4 ⨾ BehindVariable tail) rest
variable_leaves tail text first rest f run =
    iff_trans (variable_first tail text)
    (iff_trans (free_then Varchar (Others tail) text first (encoded_free is_varchar refl) f)
    (run_then FurtherVarchar (Optional ModifierLevel4 ⨾ BehindVariable tail) first rest (further_free is_varchar refl refl) (modifier_stops tail) run))

-- no variable begins without a character of a name
pub no_variable : (tail text : List ℕ) → StartsWithNo Varchar text → (Varspec ⨾ BehindVariable tail) text → ⊥
no_variable tail text n h = no_start_then Varchar (Others tail) text n ((variable_first tail text).0 h)

-- a list is a character of a name and what follows it
list_first : (tail text : List ℕ) → (VariableList ⨾ Literal (125 ∷ []) ⨾ IsTail tail) text ↔ (Varchar ⨾ Others tail) text
list_first tail text =
    iff_trans (assoc Varspec (Repeat (Literal (44 ∷ []) ⨾ Varspec)) (Literal (125 ∷ []) ⨾ IsTail tail) text) (variable_first tail text)

-- a list does not begin with an operator
-- an operator is no character of a name, and no percent sign
operator_apart : (c : ℕ) → is_operator c ≡ true → (is_varchar c ≡ false) × (c ≡ 37 → ⊥)
operator_apart c h = elim (cases_lt c 128) [
  | inl l ↦ both c l h
  | inr g ↦ absurd (not_big c g h)
]
  where
    both : (c : ℕ) → c < 128 → is_operator c ≡ true → (is_varchar c ≡ false) × (c ≡ 37 → ⊥)
    both c l h = (
      not-true _ (implied (is_operator c) (not (is_varchar c)) (agree_below_at (λ d. not (is_operator d) || not (is_varchar d)) (λ _. true) 128 c refl l) h),
      λ e. let g : is_operator 37 ≡ true = subst (λ d. is_operator d ≡ true) e h in let f : false ≡ true = g in cc,
    )

    not_big : (c : ℕ) → 128 ≤ c → is_operator c ≡ true → ⊥
    not_big c g h = grind (arith, nat_tests)

module _ (class operator : ℕ → Bool) (apart : (c : ℕ) → operator c ≡ true → (class c ≡ false) × (c ≡ 37 → ⊥)) (B : Form) where
  -- a text that is one of the class or percent-encoded, and B, begins with no operator
  list_no_operator : (x y : List ℕ) → (Encoded class ⨾ B) x → StartsWith (OneOf operator) x y → ⊥
  list_no_operator x y h f =
      let e : x ≡ f.is.character ∷ y = sym f.joined ∙ ap (λ s. s ++ y) f.is.is in
      let a = apart f.is.character f.is.member in
      no_start_then (Encoded class) B x (other_stops class f.is.character x y e a.0 a.1) h

  -- a text is an operator, or none, and such a text exactly where the rest is such
  operator_then : (text rest : List ℕ) → OptionThen (OneOf operator) text rest → (Optional (OneOf operator) ⨾ Encoded class ⨾ B) text ↔ (Encoded class ⨾ B) rest
  operator_then text rest f = greedy (OneOf operator) (Encoded class ⨾ B) text rest (OneOf-free operator) (λ x y h g. absurd (list_no_operator x y h g)) f

-- an operator, or none, variables, the closing brace and the tail are a text exactly where a variable and what follows
-- it are the rest
pub after_operator : (tail text rest : List ℕ) → OptionThen (OneOf is_operator) text rest
    → (OperatorAndVariables ⨾ Literal (125 ∷ []) ⨾ IsTail tail) text ↔ (Varspec ⨾ BehindVariable tail) rest
after_operator tail text rest f =
    let closed = Literal (125 ∷ []) ⨾ IsTail tail in
    let operator = Optional (OneOf is_operator) in
    iff_trans (assoc operator VariableList closed text)
    (iff_trans (back_cong operator (VariableList ⨾ closed) (Varchar ⨾ Others tail) text (list_first tail))
    (iff_trans (operator_then is_varchar is_operator operator_apart (Others tail) text rest f) (iff_sym (variable_first tail rest))))
