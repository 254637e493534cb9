use Rattle.strkw_net.proofs.BracketLemmas.{ipv6_no_bracket}
use Rattle.strkw_net.proofs.laws.ipv6_has_no_bracket.Goals as goal

pub returns : goal.returns
returns c = ipv6_no_bracket
