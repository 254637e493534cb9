use Rattle.std.proofs.Common.{rules}
use Rattle.strkw_text.proofs.AsciiForms.{answers_by_bytes}
use Rattle.strkw_label.specs.HostName.{IsHostName}
use Rattle.strkw_label.proofs.HostNames.{IsHostName-ascii}
use Rattle.strkw_label.proofs.host_name.is_valid_hostname.Goals as goal

pub returns : goal.returns
returns c = answers_by_bytes IsHostName IsHostName-ascii c.args.hostname.now c.utf8.hostname _ (search rules)
