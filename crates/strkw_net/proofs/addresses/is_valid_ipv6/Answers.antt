use Rattle.std.proofs.Common.{rules}
use Rattle.strkw_text.proofs.AsciiForms.{answers_by_bytes}
use Rattle.strkw_net.specs.Addresses.{IsIpv6}
use Rattle.strkw_net.proofs.AddressLemmas.{IsIpv6-ascii}
use Rattle.strkw_net.proofs.addresses.is_valid_ipv6.Goals as goal

pub returns : goal.returns
returns c = answers_by_bytes IsIpv6 IsIpv6-ascii c.args.ip.now c.utf8.ip _ (search rules)
