-- How long dates, times and durations are.
use Rattle.std.proofs.Common.{ℕ, drop, ℤ, ◌∷◌, [], arith, inl, inr}
use Rattle.std.specs.Char.{is_ascii_digit}
use Rattle.strkw_text.specs.Abnf.{Form, ◌⨾◌, ◌∣◌, Literal, Optional, Repeat}
use Rattle.strkw_text.specs.Characters.{Digit}
use Rattle.strkw_text.specs.Bounds.{DerivesAtLeast, DerivesLength}
use Rattle.strkw_text.proofs.Lengths.{Any-at_least, Literal-at_least, OneOf-at_least, Then-at_least, Either-at_least}
use Rattle.std.proofs.lemmas.List.{length-drop}
use Rattle.strkw_time.specs.Time.{IsTimeOffset, IsFullDate, IsFullTime, IsDateTime, TimeSecfrac}
use Rattle.strkw_time.specs.Duration.{Amount, DurSecond, DurMinute, DurHour, DurTime, DurDay, DurWeek, DurMonth, DurYear, DurDate, IsDuration}
use Rattle.strkw_time.proofs.Dates.{date_places}
use Rattle.strkw_time.proofs.Times.{offset_places, time_places}

-- a full-date has exactly 10 characters
pub date_window : DerivesLength 10 IsFullDate
date_window text d = (date_places text d).size

-- an offset has at least one character
zone_at_least : (offset : ℤ) → DerivesAtLeast 1 (IsTimeOffset offset)
zone_at_least offset text (inl z) = Either-at_least 1 (Literal (90 ∷ [])) (Literal (122 ∷ [])) (Literal-at_least (90 ∷ [])) (Literal-at_least (122 ∷ [])) text
    z.0
zone_at_least offset text (inr o) = omega (arith, (offset_places offset text o).size)

-- a full-time has at least 9 characters
pub time_window : DerivesAtLeast 9 IsFullTime
time_window text t =
    let p = time_places text t in
    let rest = Then-at_least 0 1 (Optional TimeSecfrac) (IsTimeOffset t.offset) (Any-at_least (Optional TimeSecfrac)) (zone_at_least t.offset) in
    omega (arith, p.size, rest (drop 8 text) p.rest, length-drop 8 text)

-- a date-time has at least 20 characters
pub datetime_window : DerivesAtLeast 20 IsDateTime
datetime_window = Then-at_least 10 10 IsFullDate ((Literal (84 ∷ []) ∣ Literal (116 ∷ [])) ⨾ IsFullTime) (λ text d. omega (arith, date_window text d))
    (Then-at_least 1 9 (Literal (84 ∷ []) ∣ Literal (116 ∷ [])) IsFullTime
    (Either-at_least 1 (Literal (84 ∷ [])) (Literal (116 ∷ [])) (Literal-at_least (84 ∷ [])) (Literal-at_least (116 ∷ []))) time_window)

-- an amount has at least two characters
amount_at_least : (unit : ℕ) → DerivesAtLeast 2 (Amount unit)
amount_at_least unit = Then-at_least 1 1 (Digit ⨾ Repeat Digit) (Literal (unit ∷ []))
    (Then-at_least 1 0 Digit (Repeat Digit) (OneOf-at_least is_ascii_digit) (Any-at_least (Repeat Digit))) (Literal-at_least (unit ∷ []))

-- an amount and what may follow it
-- have at least two characters
more_at_least : (unit : ℕ) (A : Form) → DerivesAtLeast 2 (Amount unit ⨾ A)
more_at_least unit A = Then-at_least 2 0 (Amount unit) A (amount_at_least unit) (Any-at_least A)

-- the time of a duration has at least two characters
dur_time_at_least : DerivesAtLeast 2 DurTime
dur_time_at_least text h = omega (
  arith,
  Then-at_least 1 2 (Literal (84 ∷ [])) (DurHour ∣ DurMinute ∣ DurSecond) (Literal-at_least (84 ∷ []))
      (Either-at_least 2 DurHour (DurMinute ∣ DurSecond) (more_at_least 72 (Optional DurMinute))
      (Either-at_least 2 DurMinute DurSecond (more_at_least 77 (Optional DurSecond)) (amount_at_least 83))) text h,
)

-- the date of a duration has at least two characters
dur_date_at_least : DerivesAtLeast 2 DurDate
dur_date_at_least = Then-at_least 2 0 (DurDay ∣ DurMonth ∣ DurYear) (Optional DurTime)
    (Either-at_least 2 DurDay (DurMonth ∣ DurYear) (amount_at_least 68)
    (Either-at_least 2 DurMonth DurYear (more_at_least 77 (Optional DurDay)) (more_at_least 89 (Optional DurMonth)))) (Any-at_least (Optional DurTime))

-- a duration has at least three characters
pub duration_window : DerivesAtLeast 3 IsDuration
duration_window = Then-at_least 1 2 (Literal (80 ∷ [])) (DurDate ∣ DurTime ∣ DurWeek) (Literal-at_least (80 ∷ []))
    (Either-at_least 2 DurDate (DurTime ∣ DurWeek) dur_date_at_least (Either-at_least 2 DurTime DurWeek dur_time_at_least (amount_at_least 87)))
