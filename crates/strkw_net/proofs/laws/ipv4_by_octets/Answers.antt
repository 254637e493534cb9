use Rattle.strkw_net.proofs.OctetSpelling.{ipv4_by_octets}
use Rattle.strkw_net.proofs.laws.ipv4_by_octets.Goals as goal

pub returns : goal.returns
returns c = ipv4_by_octets
