use Rattle.strkw_net.proofs.UuidSpelling.{uuid_by_octets}
use Rattle.strkw_net.proofs.laws.uuid_by_octets.Goals as goal

pub returns : goal.returns
returns c = uuid_by_octets
