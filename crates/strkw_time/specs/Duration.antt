-- Durations, RFC 3339 appendix A. Above each form stands its rule; its letters are upper case here.
use Rattle.std.specs.Prelude.{ℕ, [], ◌∷◌, codes}
use Rattle.std.specs.Str.{byte}
use Rattle.strkw_text.specs.Abnf.{Form, ◌⨾◌, ◌∣◌, Literal, Optional, Repeat1}
use Rattle.strkw_text.specs.Characters.{Digit}

-- 1*DIGIT and the letter of a unit
abbrev pub Amount : ℕ → Form
Amount unit = Repeat1 Digit ⨾ Literal (unit ∷ [])

-- dur-second = 1*DIGIT "S"
abbrev pub DurSecond : Form
DurSecond = Amount (byte "S")

-- dur-minute = 1*DIGIT "M" [dur-second]
abbrev pub DurMinute : Form
DurMinute = Amount (byte "M") ⨾ Optional DurSecond

-- dur-hour = 1*DIGIT "H" [dur-minute]
abbrev pub DurHour : Form
DurHour = Amount (byte "H") ⨾ Optional DurMinute

-- dur-time = "T" (dur-hour / dur-minute / dur-second)
abbrev pub DurTime : Form
DurTime = Literal (codes "T") ⨾ (DurHour ∣ DurMinute ∣ DurSecond)

-- dur-day = 1*DIGIT "D"
abbrev pub DurDay : Form
DurDay = Amount (byte "D")

-- dur-week = 1*DIGIT "W"
abbrev pub DurWeek : Form
DurWeek = Amount (byte "W")

-- dur-month = 1*DIGIT "M" [dur-day]
abbrev pub DurMonth : Form
DurMonth = Amount (byte "M") ⨾ Optional DurDay

-- dur-year = 1*DIGIT "Y" [dur-month]
abbrev pub DurYear : Form
DurYear = Amount (byte "Y") ⨾ Optional DurMonth

-- dur-date = (dur-day / dur-month / dur-year) [dur-time]
abbrev pub DurDate : Form
DurDate = (DurDay ∣ DurMonth ∣ DurYear) ⨾ Optional DurTime

-- duration = "P" (dur-date / dur-time / dur-week)
abbrev pub IsDuration : Form
IsDuration = Literal (codes "P") ⨾ (DurDate ∣ DurTime ∣ DurWeek)
