-- Runs of characters of which some are percent-encoded.
use Rattle.std.proofs.Common.{◌≡◌, ◌↔◌, ℕ, ◌<◌, Bool, false, eqb, IsTrue, List, [], ◌∷◌, ◌++◌, refl, sym, ap, ◌∙◌, codes}
use Rattle.std.specs.Char.{is_ascii_hexdigit}
use Rattle.strkw_text.specs.Abnf.{Form, ◌⨾◌, Literal, Optional, Repeat, OneOf}
use Rattle.strkw_text.specs.Characters.{HexDigit}
use Rattle.strkw_text.specs.Fronts.{StartsWith, StartsWithNo, RunThen}
use Rattle.strkw_text.specs.Delimiters.{Without}
use Rattle.strkw_text.proofs.Laws.{starts_one}
use Rattle.strkw_text.proofs.Equivalences.{iff_trans}
use Rattle.strkw_text.proofs.Optionals.{optional_last_ind, optional_then_at, optional_off}
use Rattle.strkw_text.proofs.Runs.{IsPrefixFree, OneOf-free, Literal-free, Then-free, either-free, run_then, one_stops, one_stops_nil, then_start}
use Rattle.strkw_text.proofs.Runs.{no_start_second, no_start_either, start_left, start_right, literal_start, differ}
use Rattle.strkw_text.proofs.Weaker.{OneOf-weaker, Either-weaker}
use Rattle.strkw_text.proofs.Delimiters.{then_without, one_without, either_without, character_without}
use Rattle.strkw_uri.specs.Uri.{PctEncoded, Encoded}

-- where a percent-encoding ends is settled by the text
pct_free : IsPrefixFree PctEncoded
pct_free = Then-free (Literal (codes "%")) (HexDigit ⨾ HexDigit) (Literal-free (codes "%"))
    (Then-free HexDigit HexDigit (OneOf-free is_ascii_hexdigit) (OneOf-free is_ascii_hexdigit))

-- a text that begins with a character of the class is this character and what follows
first_of_class : (class : ℕ → Bool) (text x : List ℕ) → (f : StartsWith (OneOf class) text x) → f.is.character ∷ x ≡ text
first_of_class class text x f = ap (λ s. s ++ x) (sym f.is.is) ∙ f.joined

-- a text that begins with a percent-encoding is a percent sign, its digits and what follows
pub first_of_pct : (text y : List ℕ) → (f : StartsWith PctEncoded text y) → 37 ∷ (f.is.back ++ y) ≡ text
first_of_pct text y f = ap (λ s. s ++ y) (ap (λ s. s ++ f.is.back) (sym f.is.first) ∙ f.is.joined) ∙ f.joined

module _ (class : ℕ → Bool) (no_percent : class 37 ≡ false) where
  -- no text begins both with a character of the class and with a percent-encoding
  apart : (text x y : List ℕ) → StartsWith (OneOf class) text x → StartsWith PctEncoded text y → ⊥
  apart text x y f g =
      let e : f.is.character ∷ x ≡ 37 ∷ (g.is.back ++ y) = first_of_class class text x f ∙ sym (first_of_pct text y g) in
      let m = f.is.member in
      cc

  -- where a character of the class or a percent-encoding ends is settled by the text
  pub encoded_free : IsPrefixFree (Encoded class)
  encoded_free = either-free (OneOf class) PctEncoded (OneOf-free class) pct_free apart

  -- a broken percent-encoding
  pub broken_stops : (text after : List ℕ) → text ≡ 37 ∷ after → StartsWithNo (HexDigit ⨾ HexDigit) after → StartsWithNo (Encoded class) text
  broken_stops text after e n = no_start_either (OneOf class) PctEncoded text (one_stops class 37 text after e no_percent)
      (no_start_second (Literal (codes "%")) (HexDigit ⨾ HexDigit) text after (Literal-free (codes "%")) (literal_start 37 text after e) n)

-- what can't go on with a run
pub other_stops : (class : ℕ → Bool) (c : ℕ) (text rest : List ℕ) → text ≡ c ∷ rest → class c ≡ false → (c ≡ 37 → ⊥) → StartsWithNo (Encoded class) text
other_stops class c text rest e h n =
    no_start_either (OneOf class) PctEncoded text (one_stops class c text rest e h)
    (λ y g. let f : c ≡ 37 = (let t : c ∷ rest ≡ 37 ∷ (g.is.back ++ y) = sym e ∙ sym (first_of_pct text y g) in cc) in n f)

-- nor can an empty text go on with one
pub nothing_stops : (class : ℕ → Bool) (text : List ℕ) → text ≡ [] → StartsWithNo (Encoded class) text
nothing_stops class text e = no_start_either (OneOf class) PctEncoded text (one_stops_nil class text e)
    (λ y g. let t : 37 ∷ (g.is.back ++ y) ≡ [] = first_of_pct text y g ∙ e in cc)

-- a character outside of the class
pub stops_at : (class : ℕ → Bool) (c : ℕ) → class c ≡ false → eqb c 37 ≡ false → (rest : List ℕ) → StartsWithNo (Encoded class) (c ∷ rest)
stops_at class c h n rest = other_stops class c (c ∷ rest) rest refl h (differ c 37 n)

-- a text that begins with a character of the class begins with an `Encoded`
pub encoded_char : (class : ℕ → Bool) (c : ℕ) (text after : List ℕ) → text ≡ c ∷ after → IsTrue (class c) → StartsWith (Encoded class) text after
encoded_char class c text after e h = start_left (OneOf class) PctEncoded text after (starts_one class c text after h e)

-- and so does one of a percent sign and two hexadecimal digits
pub encoded_pct : (class : ℕ → Bool) (text after rest : List ℕ) → text ≡ 37 ∷ after → StartsWith (HexDigit ⨾ HexDigit) after rest
    → StartsWith (Encoded class) text rest
encoded_pct class text after rest e f = start_right (OneOf class) PctEncoded text rest
    (then_start (Literal (codes "%")) (HexDigit ⨾ HexDigit) text after rest (literal_start 37 text after e) f)

-- a wider class
pub Encoded-weaker : (p q : ℕ → Bool) → ((c : ℕ) → IsTrue (p c) → IsTrue (q c)) → (x : List ℕ) → Encoded p x → Encoded q x
Encoded-weaker p q f = Either-weaker (OneOf p) (OneOf q) PctEncoded PctEncoded (OneOf-weaker p q f) (λ x t. t)

-- no ASCII character but one of the class, "%" and hexadecimal digits stands in an `Encoded`
pub encoded_without : (w : ℕ) → (low : w < 128) → (class : ℕ → Bool) → class w ≡ false → eqb 37 w ≡ false → is_ascii_hexdigit w ≡ false → (x : List ℕ)
    → Encoded class x → Without w x
encoded_without w low class n p h =
    let hex = one_without w low is_ascii_hexdigit h in
    either_without w low (OneOf class) PctEncoded (one_without w low class n)
    (then_without w low _ _ (character_without w low 37 p) (then_without w low _ _ hex hex))

-- [c A] stops a run of a class without c
pub optional_stops : (class : ℕ → Bool) (c : ℕ) (A : Form) → class c ≡ false → eqb c 37 ≡ false → (x : List ℕ) → Optional (Literal (c ∷ []) ⨾ A) x
    → StartsWithNo (Encoded class) x
optional_stops class c A h n = optional_last_ind (StartsWithNo (Encoded class)) c A (nothing_stops class [] refl) (stops_at class c h n)

-- [c run] B at c, where the run has been skipped
pub read_part : (c : ℕ) (class : ℕ → Bool) (B : Form) (text after rest : List ℕ) → text ≡ c ∷ after → (B text → ⊥) → class 37 ≡ false
    → ((x : List ℕ) → B x → StartsWithNo (Encoded class) x)
    → RunThen (Encoded class) after rest → (Optional (Literal (c ∷ []) ⨾ Repeat (Encoded class)) ⨾ B) text ↔ B rest
read_part c class B text after rest e n pc stops r =
    iff_trans (optional_then_at c (Repeat (Encoded class)) B text after e n) (run_then (Encoded class) B after rest (encoded_free class pc) stops r)

-- [c A] is no text that begins with another character than c
pub optional_not : (c : ℕ) (A : Form) (d : ℕ) (text after : List ℕ) → text ≡ d ∷ after → eqb d c ≡ false → Optional (Literal (c ∷ []) ⨾ A) text → ⊥
optional_not c A d text after e n h =
    let k : text ≡ [] = (optional_off c A text (λ rest f. let g : d ≡ c = (let t : d ∷ after ≡ c ∷ rest = sym e ∙ f in cc) in differ d c n g)).0 h in
    let t : d ∷ after ≡ [] = sym e ∙ k in cc
