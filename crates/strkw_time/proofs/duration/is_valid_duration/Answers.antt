use Rattle.std.proofs.Common.{rules}
use Rattle.strkw_text.proofs.AsciiForms.{answers_by_bytes}
use Rattle.strkw_time.specs.Duration.{IsDuration}
use Rattle.strkw_time.proofs.Durations.{IsDuration-ascii}
use Rattle.strkw_time.proofs.duration.is_valid_duration.Goals as goal

pub returns : goal.returns
returns c = answers_by_bytes IsDuration IsDuration-ascii c.args.duration.now c.utf8.duration _ (search rules)
