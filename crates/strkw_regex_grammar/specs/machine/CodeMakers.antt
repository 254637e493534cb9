-- Two makers of escapes with `\u`: one keeps the digits as they are written, the other, as the
-- code does, the number that they make.
use Rattle.std.specs.Prelude.{ℕ, ◌+◌, ◌*◌, ◌-◌, nat_le, Bool, true, false, ◌&&◌, List, [], ◌∷◌}
use Rattle.std.specs.Prelude.{◌++◌, Option, Some, None}
use Rattle.std.specs.Char.{digit_value}
use Rattle.strkw_regex_grammar.specs.Codes.{Code, unit_code}
use Rattle.strkw_regex_grammar.specs.Codes.{pair_code, point_code, code_value, is_hex_digit}
use Rattle.strkw_regex_grammar.specs.Codes.{hex_number, max_code_point}
use Rattle.strkw_regex_grammar.specs.machine.CodeMaker.{CodeMaker}

-- what is made with one more digit, where the test holds
abbrev pub value_if : {A : Type 0} → Bool → A → Option A
value_if false x = None
value_if true x = Some x

-- a digit that makes no number above the greatest
abbrev pub is_next_digit : List ℕ → ℕ → Bool
is_next_digit ds c = is_hex_digit c && nat_le (hex_number (ds ++ c ∷ [])) max_code_point

abbrev pub hex_digits : List ℕ → ℕ → Option (List ℕ)
hex_digits ds c = value_if (is_next_digit ds c) (ds ++ c ∷ [])

-- trees: digits are kept as they are written
abbrev pub code_trees : CodeMaker
code_trees = record {
  Hex = List ℕ;
  no_hex = [];
  with_hex_digit = hex_digits;
  hex_value = hex_number;
  Code = Code;
  unit_code = unit_code;
  pair_code = pair_code;
  point_code = point_code;
  code_value = code_value;
}

abbrev pub hex_with : ℕ → ℕ → Option ℕ
hex_with v c = let n = v * 16 + digit_value c in
    value_if (is_hex_digit c && nat_le n max_code_point) n

abbrev pub pair_value : ℕ → ℕ → ℕ
pair_value n m = (n - 0xD800) * 0x400 + (m - 0xDC00) + 0x10000

-- values: of digits their number is kept
abbrev pub code_values : CodeMaker
code_values = record {
  Hex = ℕ;
  no_hex = 0;
  with_hex_digit = hex_with;
  hex_value = λ n. n;
  Code = ℕ;
  unit_code = λ n. n;
  pair_code = pair_value;
  point_code = λ n. n;
  code_value = λ n. n;
}
