-- The name of a template's variable: its characters, and what is none of them.
use Rattle.std.proofs.Common.{◌≡◌, ◌↔◌, ℕ, Bool, false, eqb, List, [], ◌∷◌, ◌++◌, refl, sym, ap, ◌∙◌}
use Rattle.strkw_text.specs.Abnf.{Form, ◌⨾◌, ◌∣◌, Literal, Optional}
use Rattle.strkw_text.specs.Fronts.{StartsWith, StartsWithNo, NotFirst}
use Rattle.strkw_text.proofs.Fronts.{free_by}
use Rattle.strkw_text.proofs.Laws.{not_first, optional_then}
use Rattle.strkw_text.proofs.Runs.{IsPrefixFree, Literal-free, Then-free, either-free, then_start, no_start_first}
use Rattle.strkw_text.proofs.Runs.{no_start_second, no_start_either, start_left, start_right, literal_start, no_literal_start, differ}
use Rattle.strkw_uri.specs.Uri.{Encoded}
use Rattle.strkw_uri.proofs.Encodings.{encoded_free, other_stops, stops_at}

-- a further character, behind a dot or not
module _ (class : ℕ → Bool) (pc : class 37 ≡ false) (dot : class 46 ≡ false) where
  -- a character of the class or a percent-encoding
  abbrev V : Form
  V = Encoded class

  -- a V, behind a dot or not
  abbrev Further : Form
  Further = Optional (Literal (46 ∷ [])) ⨾ V

  -- a V behind a dot
  abbrev Dotted : Form
  Dotted = Literal (46 ∷ []) ⨾ V

  -- a further V is a V behind a dot, or a V
  further_cases : (text : List ℕ) → Further text ↔ (Dotted ∣ V) text
  further_cases text = optional_then (Literal (46 ∷ [])) V text

  -- a text that begins with a dot begins with no V
  dot_stops : (text after : List ℕ) → text ≡ 46 ∷ after → StartsWithNo V text
  dot_stops text after e = other_stops class 46 text after e dot (differ 46 37 refl)

  -- a text that begins with one of the two begins with a further V
  from_cases : (text rest : List ℕ) → StartsWith (Dotted ∣ V) text rest → StartsWith Further text rest
  from_cases text rest f = record { front = f.front; is = (further_cases f.front).1 f.is; joined = f.joined }

  -- a text that begins with neither begins with no further V
  no_cases : (text : List ℕ) → StartsWithNo (Dotted ∣ V) text → StartsWithNo Further text
  no_cases text n rest f = n rest (record { front = f.front; is = (further_cases f.front).0 f.is; joined = f.joined })

  -- no text begins both with a V behind a dot and with a V
  apart : (text x y : List ℕ) → StartsWith Dotted text x → StartsWith V text y → ⊥
  apart text x y f g =
      let t : text ≡ 46 ∷ (f.is.back ++ x) = sym (ap (λ s. (s ++ f.is.back) ++ x) (sym f.is.first) ∙ ap (λ s. s ++ x) f.is.joined ∙ f.joined) in
      dot_stops text (f.is.back ++ x) t y g

  -- where a further V ends is settled by the text
  pub further_free : IsPrefixFree Further
  further_free = free_by Further (Dotted ∣ V) (λ x h. (further_cases x).0 h)
      (either-free Dotted V (Then-free (Literal (46 ∷ [])) V (Literal-free (46 ∷ [])) (encoded_free class pc)) (encoded_free class pc) apart)

  -- a dot before a text that begins with a V begins a further V
  pub dot_front : (text mid rest : List ℕ) → text ≡ 46 ∷ mid → StartsWith V mid rest → StartsWith Further text rest
  dot_front text mid rest e f = from_cases text rest (start_left Dotted V text rest
      (then_start (Literal (46 ∷ [])) V text mid rest (literal_start 46 text mid e) f))

  -- a dot before a text that begins with no V begins none
  pub no_dot_front : (text mid : List ℕ) → text ≡ 46 ∷ mid → StartsWithNo V mid → StartsWithNo Further text
  no_dot_front text mid e n = no_cases text (no_start_either Dotted V text
      (no_start_second (Literal (46 ∷ [])) V text mid (Literal-free (46 ∷ [])) (literal_start 46 text mid e) n) (dot_stops text mid e))

  -- a text that begins with a V begins with a further V
  pub char_front : (text rest : List ℕ) → StartsWith V text rest → StartsWith Further text rest
  char_front text rest f = from_cases text rest (start_right Dotted V text rest f)

  -- a text that begins with neither a dot nor a V begins with none
  pub no_char_front : (text : List ℕ) → NotFirst 46 text → StartsWithNo V text → StartsWithNo Further text
  no_char_front text d n = no_cases text (no_start_either Dotted V text (no_start_first (Literal (46 ∷ [])) V text (no_literal_start 46 text d)) n)

  -- a text that begins with another character begins with none
  pub no_further : (c : ℕ) → class c ≡ false → eqb c 37 ≡ false → eqb c 46 ≡ false → (rest : List ℕ) → StartsWithNo Further (c ∷ rest)
  no_further c n percent point rest =
      no_char_front (c ∷ rest) (not_first c 46 (c ∷ rest) rest refl (differ c 46 point)) (stops_at class c n percent rest)
