-- Comparisons of texts, by bytes and by characters.
use Rattle.std.proofs.Common.{◌≡◌, ℕ, Bool, true, false, List, [], ◌∷◌, ◌++◌, length, drop, refl, sym, ap, ◌∙◌, ◌||◌, Ok}
use Rattle.std.specs.Prelude.{nat_eq, String}
use Rattle.std.specs.List.{starts_with, list_any}
use Rattle.std.specs.Str.{chars, IsUtf8, bytes_eq, encode_utf8_all}
use Rattle.std.specs.String.{string_bytes}
use Rattle.std.proofs.lemmas.Str.{chars-append, encodes-append, encodes-chars, IsUtf8-string_bytes}
use Rattle.std.proofs.lemmas.Slice.Eq.{bytes_eq-Decides, starts_is}
use Rattle.std.proofs.lemmas.Bool.Decides.{Decides-eqb}
use Rattle.strkw_pattern.specs.Engine.{IsAnswer}
use Rattle.strkw_pattern.specs.Matcher.{outcome_of}
use Rattle.strkw_pattern.specs.declared.engine.Outcome.{Outcome}

-- two tests that say the same
-- are the same truth value
same_tests : (a b : Bool) → (a ≡ true → b ≡ true) → (b ≡ true → a ≡ true) → a ≡ b
same_tests true b to from = sym (to refl)
same_tests false true to from = from refl
same_tests false false to from = refl

-- texts of the same characters are the same
same_chars : (a b : List ℕ) → IsUtf8 a → IsUtf8 b → chars a ≡ chars b → a ≡ b
same_chars a b ua ub e = sym (encodes-chars a ua) ∙ ap encode_utf8_all e ∙ encodes-chars b ub

-- two texts are the same by bytes exactly where they are by characters
pub bytes_eq-chars : (a b : List ℕ) → IsUtf8 a → IsUtf8 b → bytes_eq a b ≡ bytes_eq (chars a) (chars b)
bytes_eq-chars a b ua ub =
    same_tests (bytes_eq a b) (bytes_eq (chars a) (chars b))
    (λ h. (bytes_eq-Decides (chars a) (chars b)).1 (ap chars ((bytes_eq-Decides a b).0 h)))
    (λ h. (bytes_eq-Decides a b).1 (same_chars a b ua ub ((bytes_eq-Decides (chars a) (chars b)).0 h)))

-- a test of a front, as a fact
-- a text that begins with another is that, and what is behind it
pub front_of : (s p : List ℕ) → starts_with nat_eq s p ≡ true → s ≡ p ++ drop (length p) s
front_of s p h = (starts_is Decides-eqb s p _ refl).0 h

-- and back
pub starts_with-from : (s p rest : List ℕ) → s ≡ p ++ rest → starts_with nat_eq s p ≡ true
starts_with-from s p rest e = (starts_is Decides-eqb s p _ refl).1 rest e

-- the front of a text, by bytes and by characters
-- a text begins with another by bytes exactly where it does by characters
pub starts_with-chars : (s p : List ℕ) → IsUtf8 s → IsUtf8 p → starts_with nat_eq s p ≡ starts_with nat_eq (chars s) (chars p)
starts_with-chars s p us up =
    same_tests (starts_with nat_eq s p) (starts_with nat_eq (chars s) (chars p))
    (λ h. starts_with-from (chars s) (chars p) (chars (drop (length p) s)) (ap chars (front_of s p h) ∙ chars-append p (drop (length p) s) up))
    (λ h.
    let rest = drop (length (chars p)) (chars s) in
    let bytes : s ≡ p ++ encode_utf8_all rest =
    sym (encodes-chars s us) ∙ ap encode_utf8_all (front_of (chars s) (chars p) h) ∙ encodes-append (chars p) rest
    ∙ ap (λ (f : List ℕ). f ++ encode_utf8_all rest) (encodes-chars p up) in
    starts_with-from s p (encode_utf8_all rest) bytes)

-- tests that are each the same are the same joined by `or`
pub or_same : (a b c d : Bool) → a ≡ b → c ≡ d → (a || c) ≡ (b || d)
or_same a b c d e f = rw (e, f) refl

-- some alternative is the text, by bytes and by characters
pub any_chars : {Z : Type 0} (vs : List (String Z)) (t : List ℕ) → IsUtf8 t
    → list_any (λ s. bytes_eq (string_bytes s) t) vs ≡ list_any (λ s. bytes_eq (chars (string_bytes s)) (chars t)) vs
any_chars [] t ut = refl
any_chars (v ∷ vs) t ut = or_same _ _ _ _ (bytes_eq-chars (string_bytes v) t (IsUtf8-string_bytes v) ut) (any_chars vs t ut)

-- the answer of a test
-- is that of the outcome which the test has
pub answer_of : (o : Outcome) (b : Bool) → o ≡ outcome_of b → IsAnswer o (Ok b)
answer_of o true e = e
answer_of o false e = e
