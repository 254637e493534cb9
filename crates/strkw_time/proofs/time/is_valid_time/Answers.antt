use Rattle.std.proofs.Common.{rules}
use Rattle.strkw_text.proofs.AsciiForms.{answers_by_bytes}
use Rattle.strkw_time.specs.Time.{IsFullTime}
use Rattle.strkw_time.proofs.Times.{IsFullTime-ascii}
use Rattle.strkw_time.proofs.time.is_valid_time.Goals as goal

pub returns : goal.returns
returns c = answers_by_bytes IsFullTime IsFullTime-ascii c.args.time.now c.utf8.time _ (search rules)
