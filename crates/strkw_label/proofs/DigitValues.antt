-- A byte that is a digit, and the character that the encoder writes for it.
use Rattle.std.proofs.Common.{◌≡◌, ℕ, ◌+◌, ◌-◌, ◌<◌, true, false, arith}
use Rattle.std.specs.Char.{to_ascii_lowercase, is_ascii_lowercase, is_ascii_uppercase, is_ascii_digit}
use Rattle.std.proofs.lemmas.Bool.Decides.{nat_tests}
use Rattle.strkw_label.specs.Punycode.{digit_char}

-- a lower-case letter is the character of the digit that is its distance from `a`
pub lower_case_digit : (byte digit : ℕ) → is_ascii_lowercase byte ≡ true → digit ≡ byte - 97 → to_ascii_lowercase byte ≡ digit_char digit
unfolding digit_char
lower_case_digit byte digit is e = grind (arith, nat_tests)

-- an upper-case letter, in lower case, is the character of the digit that is its distance from `A`
pub upper_case_digit : (byte digit : ℕ) → is_ascii_uppercase byte ≡ true → digit ≡ byte - 65 → to_ascii_lowercase byte ≡ digit_char digit
unfolding digit_char
upper_case_digit byte digit is e = grind (arith, nat_tests)

-- a decimal digit is the character of the digit that is 26 above its value
pub decimal_digit : (byte digit : ℕ) → is_ascii_digit byte ≡ true → digit ≡ byte - 48 + 26 → to_ascii_lowercase byte ≡ digit_char digit
unfolding digit_char
decimal_digit byte digit is e = grind (arith, nat_tests)

-- a byte that is no ASCII letter and no decimal digit is the character of no digit below 36
pub no_digit : (byte digit : ℕ) → is_ascii_lowercase byte ≡ false → is_ascii_digit byte ≡ false → is_ascii_uppercase byte ≡ false → digit < 36
    → to_ascii_lowercase byte ≡ digit_char digit → ⊥
unfolding digit_char
no_digit byte digit lower decimal upper lt e = grind (arith, nat_tests)
