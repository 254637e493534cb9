-- The characters at the two ends of a text.
use Rattle.std.proofs.Common.{◌≡◌, ℕ, Bool, true, false, Option, Some, None, MatchOption, List, [], ◌∷◌, ◌++◌, length, reverse, take, chars, IsUtf8}
use Rattle.std.proofs.Common.{encode_utf8, refl, sym, ap, subst, ◌∙◌, append-nil, true≢false, arith}
use Rattle.std.specs.Char.{IsScalar}
use Rattle.std.specs.Prelude.{⊤}
use Rattle.std.specs.Str.{is_utf8}
use Rattle.std.proofs.lemmas.List.{reverse-append, take_at}
use Rattle.std.proofs.lemmas.Str.{chars-nil, chars-append, chars_past_char, IsUtf8-encode, IsUtf8-take, IsUtf8-past_char, IsCharBoundary-at_seam}
use Rattle.std.proofs.lemmas.Str.{is_utf8-from_IsUtf8, IsUtf8-from_is_utf8}
use Rattle.strkw_regex_core.specs.machine.Mirror.{along}

-- a text of no bytes has no characters
pub no_chars : (bytes : List ℕ) → length bytes ≡ 0 → chars bytes ≡ []
no_chars [] e = chars-nil
no_chars (b ∷ bs) e = absurd (omega (arith, e))

-- a character alone is one
one_char : (c : ℕ) → IsScalar c → chars (encode_utf8 c) ≡ c ∷ []
one_char c scalar =
    chars_past_char (encode_utf8 c) [] c (IsUtf8-encode c scalar) (sym (append-nil (encode_utf8 c))) ∙ ap (λ l. c ∷ l) chars-nil

-- where a text ends with a character, what is before it is a text
module _ (bytes rest : List ℕ) (c : ℕ) (utf8 : IsUtf8 bytes) (scalar : IsScalar c) (is : bytes ≡ rest ++ encode_utf8 c) where
  -- it is a text
  pub before_last : IsUtf8 rest
  before_last =
      subst IsUtf8 (ap (take (length rest)) is ∙ take_at rest (encode_utf8 c) (length rest) refl)
      (IsUtf8-take bytes (length rest) utf8 (IsCharBoundary-at_seam bytes rest (encode_utf8 c) is (IsUtf8-encode c scalar)))

  -- and the characters from the end on are that one and those before it
  pub last_first : reverse (chars bytes) ≡ c ∷ reverse (chars rest)
  last_first =
      ap (λ (l : List ℕ). reverse (chars l)) is ∙ ap reverse (chars-append rest (encode_utf8 c) before_last)
      ∙ reverse-append (chars rest) (chars (encode_utf8 c)) ∙ ap (λ (l : List ℕ). reverse l ++ reverse (chars rest)) (one_char c scalar)

-- the next character of a text, from either end
module _ (bytes rest : List ℕ) (utf8 : is_utf8 bytes ≡ true) where
  -- from its end
  pub next_back : (A : Type 0) (o : Option ℕ) → MatchOption o ⊤ IsScalar → MatchOption o ((length bytes ≡ 0) × A) (λ c. bytes ≡ rest ++ encode_utf8 c)
      → (b : Bool) → b ≡ true → MatchOption o (along b (chars bytes) ≡ []) (λ c. along b (chars bytes) ≡ c ∷ along b (chars rest))
  next_back A o s is false e = absurd (true≢false (sym e))
  next_back A None s is true e = ap reverse (no_chars bytes is.0)
  next_back A (Some c) s is true e = last_first bytes rest c (IsUtf8-from_is_utf8 bytes utf8) s is

  -- what is left is a text
  pub still_back : (A : Type 0) → (A → rest ≡ bytes) → (o : Option ℕ) → MatchOption o ⊤ IsScalar
      → MatchOption o ((length bytes ≡ 0) × A) (λ c. bytes ≡ rest ++ encode_utf8 c) → is_utf8 rest ≡ true
  still_back A f None s is = ap is_utf8 (f is.1) ∙ utf8
  still_back A f (Some c) s is = is_utf8-from_IsUtf8 rest (before_last bytes rest c (IsUtf8-from_is_utf8 bytes utf8) s is)

  -- the same from its beginning
  pub next_forth : (A : Type 0) (o : Option ℕ) → MatchOption o ((length bytes ≡ 0) × A) (λ c. bytes ≡ encode_utf8 c ++ rest)
      → (b : Bool) → b ≡ false → MatchOption o (along b (chars bytes) ≡ []) (λ c. along b (chars bytes) ≡ c ∷ along b (chars rest))
  next_forth A o is true e = absurd (true≢false e)
  next_forth A None is false e = no_chars bytes is.0
  next_forth A (Some c) is false e = chars_past_char bytes rest c (IsUtf8-from_is_utf8 bytes utf8) is

  -- what is left then is a text
  pub still_forth : (A : Type 0) → (A → rest ≡ bytes) → (o : Option ℕ)
      → MatchOption o ((length bytes ≡ 0) × A) (λ c. bytes ≡ encode_utf8 c ++ rest) → is_utf8 rest ≡ true
  still_forth A f None is = ap is_utf8 (f is.1) ∙ utf8
  still_forth A f (Some c) is = is_utf8-from_IsUtf8 rest (IsUtf8-past_char bytes rest c (IsUtf8-from_is_utf8 bytes utf8) is)

-- where no character is next, what holds of none does
pub none_next : (A : Type 0) (B : ℕ → Type 0) (o : Option ℕ) → ((c : ℕ) → o ≡ Some c → ⊥) → MatchOption o A B → A
none_next A B None f m = m
none_next A B (Some c) f m = absurd (f c refl)
