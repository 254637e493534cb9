-- How often a quantifier repeats, and the pattern that a repetition stands for.
use Rattle.std.specs.Prelude.{ℕ, zero, suc, ◌+◌, ◌-◌, ◌==◌, ◌&&◌, Option, Some, None, if◌then◌else◌}
use Rattle.strkw_regex_core.specs.machine.MarkedPattern.{MarkedPattern, empty, cat, alt, star, plus}

-- how often a quantifier repeats
pub data Times : Type 0 where
  any_times some_times once_at_most : Times
  exact_times : ℕ → Times
  least_times : ℕ → Times
  range_times : ℕ → ℕ → Times

-- at least so often, and at most so often where there is a second number
abbrev pub times_of : ℕ → Option ℕ → Times
times_of n None =
    if n == 0 then any_times else if n == 1 then some_times else least_times n
times_of n (Some m) =
    if n == m then exact_times n
    else if n == 0 && m == 1 then once_at_most else range_times n m

abbrev pub repetition : ℕ → MarkedPattern → MarkedPattern
repetition zero p = empty
repetition (suc n) p = cat p (repetition n p)

-- so often, and then as often as is left, each of which may be missing
abbrev pub quantified_pattern : Times → MarkedPattern → MarkedPattern
quantified_pattern any_times p = star p
quantified_pattern some_times p = plus p
quantified_pattern once_at_most p = alt empty p
quantified_pattern (exact_times n) p = repetition n p
quantified_pattern (least_times n) p = cat (repetition n p) (star p)
quantified_pattern (range_times n m) p = cat (repetition n p) (repetition (m - n) (alt empty p))

-- how many copies of what it repeats it takes
abbrev pub copies : Times → ℕ
copies any_times = 1
copies some_times = 1
copies once_at_most = 1
copies (exact_times n) = n
copies (least_times n) = n + 1
copies (range_times n m) = m
