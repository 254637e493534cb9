use Rattle.std.proofs.Common.{rules}
use Rattle.strkw_text.proofs.AsciiForms.{answers_by_bytes}
use Rattle.strkw_time.specs.Time.{IsFullDate}
use Rattle.strkw_time.proofs.Dates.{IsFullDate-ascii}
use Rattle.strkw_time.proofs.date.is_valid_date.Goals as goal

pub returns : goal.returns
returns c = answers_by_bytes IsFullDate IsFullDate-ascii c.args.date.now c.utf8.date _ (search rules)
