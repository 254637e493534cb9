-- Dates and times, RFC 3339 section 5.6: its rules, and beside them its restrictions.
-- "T" and "Z" may stand in lower case there, as its note says.
use Rattle.std.specs.Prelude.{◌≡◌, ℕ, ◌+◌, ◌*◌, ◌%◌, ◌≤◌, ◌⊎◌, Bool, ◌&&◌, ◌||◌, not, List, [], ◌∷◌}
use Rattle.std.specs.Prelude.{codes, ◌==◌, if◌then◌else◌, ℤ, pos, neg_ℤ, ◌-ℤ◌}
use Rattle.std.specs.Str.{byte}
use Rattle.std.specs.Int.{int_rem_euclid}
use Rattle.strkw_text.specs.Abnf.{Form, ◌⨾◌, ◌∣◌, Literal, Optional, Repeat1}
use Rattle.strkw_text.specs.Characters.{Digit}
use Rattle.strkw_text.specs.Numbers.{Number}

-- appendix C: divisible by 4 and not by 100, or by 400; the year 0000 is leap
abbrev pub is_leap_year : ℕ → Bool
is_leap_year year = (year % 4 == 0) && not (year % 100 == 0) || (year % 400 == 0)

-- section 5.7: how many days the month has in the year
abbrev pub days_in : ℕ → ℕ → ℕ
days_in year month =
    if month == 2 then (if is_leap_year year then 29 else 28)
    else (if (month == 4) || (month == 6) || (month == 9) || (month == 11) then 30 else 31)

-- date-fullyear = 4DIGIT
abbrev pub DateFullyear : ℕ → Form
DateFullyear year = Number 4 year

-- date-month = 2DIGIT ; 01-12
abbrev pub DateMonth : ℕ → Form
DateMonth month = Number 2 month

-- date-mday = 2DIGIT ; 01-28, 01-29, 01-30, 01-31 based on month and year
abbrev pub DateMday : ℕ → Form
DateMday day = Number 2 day

-- full-date = date-fullyear "-" date-month "-" date-mday
abbrev pub FullDate : ℕ → ℕ → ℕ → Form
FullDate year month day = DateFullyear year ⨾ Literal (codes "-") ⨾ DateMonth month
    ⨾ Literal (codes "-") ⨾ DateMday day

pub record IsFullDate (text : List ℕ) : Type 0 where
  pub year : ℕ
  pub month : ℕ
  pub day : ℕ
  pub spelled : FullDate year month day text
  pub month_fits : (1 ≤ month) × (month ≤ 12)
  pub day_fits : (1 ≤ day) × (day ≤ days_in year month)

-- time-hour = 2DIGIT ; 00-23
abbrev pub TimeHour : ℕ → Form
TimeHour hour = Number 2 hour

-- time-minute = 2DIGIT ; 00-59
abbrev pub TimeMinute : ℕ → Form
TimeMinute minute = Number 2 minute

-- time-second = 2DIGIT ; 00-58, 00-59, 00-60 based on leap second rules
abbrev pub TimeSecond : ℕ → Form
TimeSecond second = Number 2 second

-- time-secfrac = "." 1*DIGIT
abbrev pub TimeSecfrac : Form
TimeSecfrac = Literal (codes ".") ⨾ Repeat1 Digit

-- time-numoffset = ("+" / "-") time-hour ":" time-minute
pub record IsTimeNumoffset (offset : ℤ) (text : List ℕ) : Type 0 where
  pub sign : ℕ
  pub hour : ℕ
  pub minute : ℕ
  pub spelled : (Literal (sign ∷ []) ⨾ TimeHour hour ⨾ Literal (codes ":") ⨾ TimeMinute minute) text
  pub hour_fits : hour ≤ 23
  pub minute_fits : minute ≤ 59
  pub minutes_east : ((sign ≡ byte "+") × (offset ≡ pos (60 * hour + minute)))
      ⊎ ((sign ≡ byte "-") × (offset ≡ neg_ℤ (pos (60 * hour + minute))))

-- time-offset = "Z" / time-numoffset, of so many minutes east of UTC
abbrev pub IsTimeOffset : ℤ → Form
IsTimeOffset offset text = ((Literal (codes "Z") ∣ Literal (codes "z")) text × (offset ≡ pos 0))
    ⊎ IsTimeNumoffset offset text

-- partial-time = time-hour ":" time-minute ":" time-second [time-secfrac]
abbrev pub PartialTime : ℕ → ℕ → ℕ → Form
PartialTime hour minute second = TimeHour hour ⨾ Literal (codes ":") ⨾ TimeMinute minute
    ⨾ Literal (codes ":") ⨾ TimeSecond second ⨾ Optional TimeSecfrac

-- full-time = partial-time time-offset
pub record IsFullTime (text : List ℕ) : Type 0 where
  pub hour : ℕ
  pub minute : ℕ
  pub second : ℕ
  pub offset : ℤ
  pub spelled : (PartialTime hour minute second ⨾ IsTimeOffset offset) text
  pub hour_fits : hour ≤ 23
  pub minute_fits : minute ≤ 59
  pub second_fits : second ≤ 60
  -- appendix D: a leap second is the last of a day of UTC, 23:59:60Z. Section 5.7 has it only in
  -- months that have one, here in any
  pub leap_second : second ≡ 60 → int_rem_euclid (pos (60 * hour + minute) -ℤ offset) (pos 1440)
      ≡ pos 1439

-- date-time = full-date "T" full-time
abbrev pub IsDateTime : Form
IsDateTime = IsFullDate ⨾ (Literal (codes "T") ∣ Literal (codes "t")) ⨾ IsFullTime
