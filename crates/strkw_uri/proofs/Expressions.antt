-- Literals and expressions: each is found from its first character.
use Rattle.std.proofs.Common.{◌≡◌, ◌↔◌, ℕ, Bool, false, List, [], ◌∷◌, ◌++◌, refl, sym, ap, ◌∙◌, append_assoc}
use Rattle.strkw_text.specs.Abnf.{Form, ◌⨾◌, ◌∣◌, Literal, Repeat, OneOf}
use Rattle.strkw_text.specs.Fronts.{StartsWith, StartsWithNo, NotFirst, OptionThen}
use Rattle.strkw_text.proofs.Delimiters.{delimiter_once}
use Rattle.strkw_text.proofs.Fronts.{whole_step, whole_end}
use Rattle.strkw_text.proofs.Laws.{then, assoc, not_first_nil}
use Rattle.strkw_text.proofs.Runs.{IsPrefixFree, Literal-free, Then-free, either-free, then_start, no_start_first, no_start_second, no_start_either, start_left}
use Rattle.strkw_text.proofs.Runs.{start_right, literal_start, no_literal_start, differ}
use Rattle.strkw_uri.specs.Scan.{BehindVariable}
use Rattle.strkw_uri.specs.Template.{is_literal_char, is_operator, Varspec, OperatorAndVariables, InExpression, LiteralOrExpression, IsUriTemplate}
use Rattle.strkw_uri.specs.Uri.{Encoded}
use Rattle.strkw_uri.proofs.Encodings.{encoded_free, other_stops, nothing_stops}
use Rattle.strkw_uri.proofs.Variables.{after_operator, brace_low, no_brace}

-- an operator and variables before a closing brace are the inside of an expression at the front
inside_front : (text inside rest : List ℕ) → text ≡ inside ++ 125 ∷ rest → OperatorAndVariables inside → StartsWith InExpression text rest
inside_front text inside rest e b = record {
  front = inside ++ 125 ∷ [];
  is = then inside (125 ∷ []) _ b refl refl;
  joined = append_assoc inside (125 ∷ []) rest
      ∙ sym e;
}

-- such an inside at the front is an operator and variables, a closing brace and the rest
inside_shape : (text rest : List ℕ) → StartsWith InExpression text rest → (OperatorAndVariables ⨾ Literal (125 ∷ []) ⨾ (λ x. x ≡ rest)) text
inside_shape text rest f = (assoc OperatorAndVariables (Literal (125 ∷ [])) (λ x. x ≡ rest) text).0 (then f.front rest text f.is refl f.joined)

-- and where a text is these, such an inside begins it
shape_inside : (text rest : List ℕ) → (OperatorAndVariables ⨾ Literal (125 ∷ []) ⨾ (λ x. x ≡ rest)) text → StartsWith InExpression text rest
shape_inside text rest h =
    let behind : h.back ≡ 125 ∷ rest = sym h.second.joined ∙ ap (λ s. s ++ h.second.back) h.second.first ∙ ap (λ s. 125 ∷ s) h.second.second in
    inside_front text h.front rest (sym h.joined ∙ ap (λ s. h.front ++ s) behind) h.first

-- such an inside begins a text where a variable, and what follows it up to the rest, is what the operator leaves
pub inside_found : (text mid rest : List ℕ) → OptionThen (OneOf is_operator) text mid
    → ((tail : List ℕ) → (Varspec ⨾ BehindVariable tail) mid ↔ (rest ≡ tail)) → StartsWith InExpression text rest
inside_found text mid rest f found = shape_inside text rest ((after_operator rest text mid f).1 ((found rest).1 refl))

-- and where no variable does, none begins
pub no_inside : (text mid : List ℕ) → OptionThen (OneOf is_operator) text mid → ((tail : List ℕ) → (Varspec ⨾ BehindVariable tail) mid → ⊥)
    → StartsWithNo InExpression text
no_inside text mid f none rest start = none rest ((after_operator rest text mid f).0 (inside_shape text rest start))

-- where the inside of an expression ends is settled by the text
inside_free : IsPrefixFree InExpression
inside_free p q x y a b e =
    let u : a.front ++ 125 ∷ x ≡ p ++ x = ap (λ r. a.front ++ (r ++ x)) (sym a.second) ∙ sym (append_assoc a.front a.back x) ∙ ap (λ r. r ++ x) a.joined in
    let v : b.front ++ 125 ∷ y ≡ q ++ y = ap (λ r. b.front ++ (r ++ y)) (sym b.second) ∙ sym (append_assoc b.front b.back y) ∙ ap (λ r. r ++ y) b.joined in
    (delimiter_once 125 brace_low a.front b.front x y (no_brace a.front a.first) (no_brace b.front b.first) (u ∙ e ∙ sym v)).1

-- a character of the class, or X behind a brace
module _ (class : ℕ → Bool) (pc : class 37 ≡ false) (brace : class 123 ≡ false) (X : Form) (free : IsPrefixFree X) where
  -- an X behind an opening brace
  abbrev Braced : Form
  Braced = Literal (123 ∷ []) ⨾ X

  -- a character of the class, a percent-encoding or such an X
  abbrev Choice : Form
  Choice = Encoded class ∣ Braced

  -- a text that begins with a brace begins with no character of the class and no percent-encoding
  brace_stops : (text after : List ℕ) → text ≡ 123 ∷ after → StartsWithNo (Encoded class) text
  brace_stops text after e = other_stops class 123 text after e brace (differ 123 37 refl)

  -- no text begins both with a character of the class or a percent-encoding and with such an X
  apart : (text x y : List ℕ) → StartsWith (Encoded class) text x → StartsWith Braced text y → ⊥
  apart text x y f g =
      let t : text ≡ 123 ∷ (g.is.back ++ y) = sym (ap (λ s. (s ++ g.is.back) ++ y) (sym g.is.first) ∙ ap (λ s. s ++ y) g.is.joined ∙ g.joined) in
      brace_stops text (g.is.back ++ y) t x f

  -- where a choice ends is settled by the text
  choice_free : IsPrefixFree Choice
  choice_free = either-free (Encoded class) Braced (encoded_free class pc) (Then-free (Literal (123 ∷ [])) X (Literal-free (123 ∷ [])) free) apart

  -- a text that begins with a character of the class or a percent-encoding begins with a choice
  choice_char : (text rest : List ℕ) → StartsWith (Encoded class) text rest → StartsWith Choice text rest
  choice_char = start_left (Encoded class) Braced

  -- and so does a brace before a text that begins with an X
  choice_brace : (text mid rest : List ℕ) → text ≡ 123 ∷ mid → StartsWith X mid rest → StartsWith Choice text rest
  choice_brace text mid rest e f = start_right (Encoded class) Braced text rest
      (then_start (Literal (123 ∷ [])) X text mid rest (literal_start 123 text mid e) f)

  -- a brace before a text that begins with no X begins no choice
  no_choice_brace : (text mid : List ℕ) → text ≡ 123 ∷ mid → StartsWithNo X mid → StartsWithNo Choice text
  no_choice_brace text mid e n = no_start_either (Encoded class) Braced text (brace_stops text mid e)
      (no_start_second (Literal (123 ∷ [])) X text mid (Literal-free (123 ∷ [])) (literal_start 123 text mid e) n)

  -- nor does a text that begins with neither a brace nor one of the class or percent-encoded
  no_choice : (text : List ℕ) → StartsWithNo (Encoded class) text → NotFirst 123 text → StartsWithNo Choice text
  no_choice text n d = no_start_either (Encoded class) Braced text n (no_start_first (Literal (123 ∷ [])) X text (no_literal_start 123 text d))

  -- an empty text begins with no choice
  some : StartsWithNo Choice []
  some = no_choice [] (nothing_stops class [] refl) (not_first_nil 123 [] refl)

  -- a text that begins with a choice is choices exactly where what follows it is
  choice_step : (text after : List ℕ) → StartsWith Choice text after → Repeat Choice text ↔ Repeat Choice after
  choice_step = whole_step Choice choice_free some

  -- a text that begins with none is choices exactly where it is empty
  choice_end : (text : List ℕ) → StartsWithNo Choice text → Repeat Choice text ↔ (text ≡ [])
  choice_end = whole_end Choice choice_free some

-- a text that begins with a literal begins with a literal or an expression
pub literal_front : (text rest : List ℕ) → StartsWith (Encoded is_literal_char) text rest → StartsWith LiteralOrExpression text rest
literal_front = choice_char is_literal_char refl refl InExpression inside_free

-- and so does a brace before the inside of an expression
pub brace_front : (text mid rest : List ℕ) → text ≡ 123 ∷ mid → StartsWith InExpression mid rest → StartsWith LiteralOrExpression text rest
brace_front = choice_brace is_literal_char refl refl InExpression inside_free

-- a brace before a text that begins with no such inside begins neither
pub no_brace_front : (text mid : List ℕ) → text ≡ 123 ∷ mid → StartsWithNo InExpression mid → StartsWithNo LiteralOrExpression text
no_brace_front = no_choice_brace is_literal_char refl refl InExpression inside_free

-- nor does a text that begins with neither a brace nor a literal
pub no_front : (text : List ℕ) → StartsWithNo (Encoded is_literal_char) text → NotFirst 123 text → StartsWithNo LiteralOrExpression text
no_front = no_choice is_literal_char refl refl InExpression inside_free

-- a text that begins with a literal or an expression is a template exactly where what follows is
pub template_step : (text after : List ℕ) → StartsWith LiteralOrExpression text after → IsUriTemplate text ↔ IsUriTemplate after
template_step = choice_step is_literal_char refl refl InExpression inside_free

-- a text that begins with neither is a template exactly where it is empty
pub template_end : (text : List ℕ) → StartsWithNo LiteralOrExpression text → IsUriTemplate text ↔ (text ≡ [])
template_end = choice_end is_literal_char refl refl InExpression inside_free
