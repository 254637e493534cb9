use Rattle.std.proofs.Common.{true, false}
use Rattle.strkw_time.proofs.Calendar.{days_of_february}
use Rattle.strkw_time.proofs.laws.days_of_months.Goals as goal

pub returns-clause-february_normal : goal.returns-clause-february_normal
returns-clause-february_normal c = λ year normal. days_of_february year false normal

pub returns-clause-february_leap_year : goal.returns-clause-february_leap_year
returns-clause-february_leap_year c = λ year leap. days_of_february year true leap
