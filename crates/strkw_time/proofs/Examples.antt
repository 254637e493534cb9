-- The examples of the formats are derived.
use Rattle.std.proofs.Common.{[], refl, arith, inl, pos}
use Rattle.std.specs.Prelude.{codes}
use Rattle.strkw_text.specs.Abnf.{Optional}
use Rattle.strkw_text.specs.Fronts.{StartsWith}
use Rattle.std.specs.Str.Parse.{AllDigits}
use Rattle.strkw_text.proofs.Laws.{then}
use Rattle.strkw_text.proofs.Classes.{digits_numeral}
use Rattle.strkw_time.specs.Time.{IsFullDate, IsFullTime, IsDateTime, TimeSecfrac}
use Rattle.strkw_time.specs.Duration.{Amount, IsDuration}
use Rattle.strkw_time.proofs.Dates.{full_date_at}
use Rattle.strkw_time.proofs.Times.{full_time_spelled}

-- the text `2020-01-01` is a full-date
pub date_example : IsFullDate (codes "2020-01-01")
date_example = record {
  year = 2020;
  month = 1;
  day = 1;
  spelled = (full_date_at 2020 1 1 (codes "2020-01-01")).1 (record {
    size = refl;
    first_dash = refl;
    second_dash = refl;
    year_at = ((omega arith, (omega arith, (omega arith, (omega arith, tt)))), refl);
    month_at = ((omega arith, (omega arith, tt)), refl);
    day_at = ((omega arith, (omega arith, tt)), refl);
  });
  month_fits = (omega arith, omega arith);
  day_fits = (omega arith, omega arith);
}

-- both characters of `00` are decimal digits
two_zeros : AllDigits 10 (codes "00")
two_zeros = (omega arith, (omega arith, tt))

-- before `Z` an optional fraction may be left out
no_fraction : StartsWith (Optional TimeSecfrac) (codes "Z") (codes "Z")
no_fraction = record { front = []; is = inl refl; joined = refl }

-- the text `00:00:00Z` is a full-time
pub time_example : IsFullTime (codes "00:00:00Z")
time_example = record {
  hour = 0;
  minute = 0;
  second = 0;
  offset = pos 0;
  spelled = full_time_spelled (codes "00:00:00Z") (codes "Z") (codes "Z") 0 0 0 (pos 0) (omega arith) refl refl
      (two_zeros, refl) (two_zeros, refl) (two_zeros, refl) refl no_fraction (inl (inl refl, refl));
  hour_fits = omega arith;
  minute_fits = omega arith;
  second_fits = omega arith;
  leap_second = λ e. absurd (omega arith);
}

-- the text `2020-01-01T00:00:00Z` is a date-time
pub datetime_example : IsDateTime (codes "2020-01-01T00:00:00Z")
datetime_example = then (codes "2020-01-01") (codes "T00:00:00Z") (codes "2020-01-01T00:00:00Z") date_example
    (then (codes "T") (codes "00:00:00Z") (codes "T00:00:00Z") (inl refl) time_example refl) refl

-- `1D` is an amount of days
one_day : Amount 68 (codes "1D")
one_day = then (codes "1") (codes "D") (codes "1D") ((digits_numeral (codes "1")).1 (omega arith, (omega arith, tt))) refl refl

-- the text `P1D` is a duration
pub duration_example : IsDuration (codes "P1D")
duration_example = then (codes "P") (codes "1D") (codes "P1D") refl (inl (then (codes "1D") [] (codes "1D") (inl one_day) (inl refl) refl)) refl
