-- Digits and the number that they make.
use Rattle.std.proofs.Common.{◌≡◌, ℕ, ◌+◌, ◌*◌, ◌-◌, ◌≤◌, ◌==◌, Bool, true, false, List, [], ◌∷◌, ◌++◌, if◌then◌else◌, refl, sym, ap, ◌∙◌, true≢false}
use Rattle.std.proofs.Common.{arith, nat_le}
use Rattle.std.proofs.lemmas.Bool.Decides.{nat_tests}
use Rattle.strkw_regex_grammar.specs.Regex.{capture_limit}
use Rattle.strkw_regex_grammar.specs.machine.Lexemes.{cap_number}
use Rattle.std.specs.Str.{byte}
use Rattle.strkw_regex_grammar.specs.Numbers.{is_digit, are_digits, number_from, number, CountToken, digit, comma, closing_brace, no_count}
use Rattle.strkw_regex_grammar.specs.Numbers.{count_token}
use Rattle.strkw_charset.proofs.Booleans.{and_true, and_left, and_right}

-- one more digit makes a number ten times as great, with the digit's value added
pub number_push : (v : ℕ) (ds : List ℕ) (c : ℕ) → number_from v (ds ++ c ∷ []) ≡ number_from v ds * 10 + (c - byte "0")
number_push v [] c = refl
number_push v (d ∷ ds) c = number_push (v * 10 + (d - byte "0")) ds c

-- the number of digits, and others behind them, goes on from the number of the first
pub number_append : (v : ℕ) (ds es : List ℕ) → number_from v (ds ++ es) ≡ number_from (number_from v ds) es
number_append v [] es = refl
number_append v (d ∷ ds) es = number_append (v * 10 + (d - byte "0")) ds es

-- more digits make no smaller number
pub grows : (v : ℕ) (ds : List ℕ) → v ≤ number_from v ds
grows v [] = omega arith
grows v (d ∷ ds) = omega (arith, grows (v * 10 + (d - byte "0")) ds)

-- digits with one more are digits
pub digits_push : (ds : List ℕ) (c : ℕ) → are_digits ds ≡ true → is_digit c ≡ true → are_digits (ds ++ c ∷ []) ≡ true
digits_push [] c h e = and_true _ _ e refl
digits_push (d ∷ ds) c h e = and_true _ _ (and_left (is_digit d) _ h) (digits_push ds c (and_right (is_digit d) _ h) e)

-- whether what stands in a count is a digit
is_digit_token : CountToken → Bool
is_digit_token digit = true
is_digit_token t = false

-- a comma, a closing brace and what is none of them are no digit
other_tokens : (a b : Bool) → is_digit_token (if a then comma else if b then closing_brace else no_count) ≡ false
unfolding is_digit_token
other_tokens true b = refl
other_tokens false true = refl
other_tokens false false = refl

-- where a test chooses a digit, and could else choose none, it holds
digit_alone : (b : Bool) (t : CountToken) → is_digit_token t ≡ false → (if b then digit else t) ≡ digit → b ≡ true
unfolding is_digit_token
digit_alone true t f h = refl
digit_alone false t f h = absurd (true≢false (sym (ap is_digit_token h) ∙ f))

-- a character that is taken as a digit in a count is one
pub is_digit_of : (c : ℕ) → count_token c ≡ digit → is_digit c ≡ true
is_digit_of c h = digit_alone (is_digit c) _ (other_tokens (c == byte ",") (c == byte "}")) h

-- and a digit is taken as one
pub token_of_digit : (c : ℕ) → is_digit c ≡ true → count_token c ≡ digit
token_of_digit c h = ap (λ (b : Bool). if b then digit else if c == byte "," then comma else if c == byte "}" then closing_brace else no_count) h

-- a number that is held may be held before one digit more too
pub held_push : (n d : ℕ) → cap_number (n * 10 + d) ≡ cap_number (cap_number n * 10 + d)
held_push n d = by_test (nat_le n capture_limit) refl
  where
    -- by whether it is held
    by_test : (b : Bool) → nat_le n capture_limit ≡ b → cap_number (n * 10 + d) ≡ cap_number ((if b then n else capture_limit) * 10 + d)
    by_test true e = refl
    by_test false e = grind (arith, nat_tests)

-- so digits with one more have the number that is held of them
pub held_more : (ds : List ℕ) (c n : ℕ) → n ≡ cap_number (number ds) → cap_number (n * 10 + (c - byte "0")) ≡ cap_number (number (ds ++ c ∷ []))
held_more ds c n h =
    ap (λ z. cap_number (z * 10 + (c - byte "0"))) h ∙ sym (held_push (number ds) (c - byte "0")) ∙ ap cap_number (sym (number_push 0 ds c))
