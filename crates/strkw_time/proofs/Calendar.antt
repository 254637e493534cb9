-- Months and leap years, as RFC 3339 writes them.
use Rattle.std.proofs.Common.{◌≡◌, ◌%◌, ℕ, Bool, true, false, not, ◌&&◌, ◌||◌, refl, ap, arith}
use Rattle.std.specs.Prelude.{◌==◌, if◌then◌else◌}
use Rattle.std.proofs.lemmas.Bool.{false≢true}
use Rattle.std.proofs.lemmas.Bool.Decides.{nat_tests}
use Rattle.strkw_time.specs.Time.{days_in, is_leap_year}

-- February has 29 days in a leap year, and else 28
pub days_of_february : (year : ℕ) (leap : Bool) → is_leap_year year ≡ leap → days_in year 2 ≡ (if leap then 29 else 28)
days_of_february year leap e = ap (λ (b : Bool). if b then 29 else 28) e

-- where the last test implies the first, it may stand behind the first
regrouped : (first second last : Bool) → (last ≡ true → first ≡ true) → ((first && not second) || last) ≡ (first && (not second || last))
regrouped true second last implies = refl
regrouped false second false implies = refl
regrouped false second true implies = absurd (false≢true (implies refl))

-- a leap year is divisible by 4, and not by 100 unless by 400
pub leap_year_regrouped : (year : ℕ) → is_leap_year year ≡ ((year % 4 == 0) && (not (year % 100 == 0) || (year % 400 == 0)))
leap_year_regrouped year = regrouped (year % 4 == 0) (year % 100 == 0) (year % 400 == 0) (λ h. grind (arith, nat_tests))
