use Rattle.std.proofs.Common.{rules}
use Rattle.strkw_text.proofs.AsciiForms.{answers_by_bytes}
use Rattle.strkw_net.specs.HostName.{IsAsciiHostName}
use Rattle.strkw_net.proofs.HostNameLemmas.{IsAsciiHostName-ascii}
use Rattle.strkw_net.proofs.host_name.is_valid_hostname_rfc1034.Goals as goal

pub returns : goal.returns
returns c = answers_by_bytes IsAsciiHostName IsAsciiHostName-ascii c.args.hostname.now c.utf8.hostname _ (search rules)
