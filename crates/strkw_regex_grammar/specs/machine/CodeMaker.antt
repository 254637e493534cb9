-- What a reader of escapes by a number makes of their digits: trees, or the numbers that these
-- stand for.
use Rattle.std.specs.Prelude.{ℕ, Option}

pub record CodeMaker : Type 1 where
  -- its digits so far, with one more where that is no number too great, and the escape
  pub Hex : Type 0
  pub no_hex : Hex
  pub with_hex_digit : Hex → ℕ → Option Hex
  pub hex_value : Hex → ℕ
  pub Code : Type 0
  pub unit_code : Hex → Code
  pub pair_code : Hex → Hex → Code
  pub point_code : Hex → Code
  pub code_value : Code → ℕ
