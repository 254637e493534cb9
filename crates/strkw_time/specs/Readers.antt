-- What the private functions speak of.
use Rattle.std.specs.Prelude.{ℕ, List, ◌≤◌, [], ◌∷◌, ⊤}
use Rattle.std.specs.Char.{digit_value}
use Rattle.std.specs.Str.{byte}
use Rattle.strkw_text.specs.Abnf.{Form}
use Rattle.strkw_text.specs.Characters.{Digit}
use Rattle.strkw_text.specs.Fronts.{StartsWith, StartsWithNo, NotFirst}
use Rattle.strkw_time.specs.Duration.{Amount}
use Rattle.strkw_time.specs.Time.{days_in}

-- a fraction of a second ends before this
abbrev pub EndsSecfrac : Form
EndsSecfrac text = StartsWithNo Digit text × NotFirst (byte ".") text

-- digits and the letter of their unit, and then rest
pub record AmountThen (unit : ℕ) (text rest : List ℕ) : Type 0 where
  pub letter : 10 ≤ digit_value unit
  pub starts : StartsWith (Amount unit) text rest

-- nothing, or no digit first
abbrev pub StartsWithNoDigit : Form
StartsWithNoDigit [] = ⊤
StartsWithNoDigit (c ∷ cs) = 10 ≤ digit_value c

-- a month of the year, and a day of the month
abbrev pub IsDay : ℕ → ℕ → ℕ → Type 0
IsDay year month day = ((1 ≤ month) × (month ≤ 12)) × ((1 ≤ day) × (day ≤ days_in year month))
