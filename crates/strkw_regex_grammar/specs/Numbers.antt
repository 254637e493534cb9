-- Counts of a quantifier: DecimalDigits and their value (ECMA-262 2024, sections 22.2.1 and
-- 22.2.2.7).
use Rattle.std.specs.Prelude.{ℕ, ◌+◌, ◌*◌, ◌-◌, nat_le, ◌==◌, Bool, true, ◌&&◌, List, []}
use Rattle.std.specs.Prelude.{◌∷◌, if◌then◌else◌}
use Rattle.std.specs.Str.{byte}
pub use Rattle.strkw_regex_grammar.specs.declared.tokens.CountToken.{CountToken}
pub use Rattle.strkw_regex_grammar.specs.declared.tokens.CountToken.TheVariants.{Digit as digit}
pub use Rattle.strkw_regex_grammar.specs.declared.tokens.CountToken.TheVariants.{Comma as comma}
pub use Rattle.strkw_regex_grammar.specs.declared.tokens.CountToken.TheVariants.{Closing as closing_brace}
pub use Rattle.strkw_regex_grammar.specs.declared.tokens.CountToken.TheVariants.{Other as no_count}

abbrev pub is_digit : ℕ → Bool
is_digit c = nat_le (byte "0") c && nat_le c (byte "9")

abbrev pub are_digits : List ℕ → Bool
are_digits [] = true
are_digits (d ∷ ds) = is_digit d && are_digits ds

abbrev pub number_from : ℕ → List ℕ → ℕ
number_from v [] = v
number_from v (d ∷ ds) = number_from (v * 10 + (d - byte "0")) ds

abbrev pub number : List ℕ → ℕ
number = number_from 0

-- what a character is in a count
abbrev pub count_token : ℕ → CountToken
count_token c =
    if is_digit c then digit else if c == byte "," then comma
    else if c == byte "}" then closing_brace else no_count
