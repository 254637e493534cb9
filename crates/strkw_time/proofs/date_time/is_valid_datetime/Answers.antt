use Rattle.std.proofs.Common.{rules}
use Rattle.strkw_text.proofs.AsciiForms.{answers_by_bytes}
use Rattle.strkw_time.specs.Time.{IsDateTime}
use Rattle.strkw_time.proofs.Times.{IsDateTime-ascii}
use Rattle.strkw_time.proofs.date_time.is_valid_datetime.Goals as goal

pub returns : goal.returns
returns c = answers_by_bytes IsDateTime IsDateTime-ascii c.args.datetime.now c.utf8.datetime _ (search rules)
