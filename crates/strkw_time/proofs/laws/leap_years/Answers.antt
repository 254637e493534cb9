use Rattle.strkw_time.proofs.Calendar.{leap_year_regrouped}
use Rattle.strkw_time.proofs.laws.leap_years.Goals as goal

pub returns : goal.returns
returns c = leap_year_regrouped
