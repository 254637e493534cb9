use Rattle.strkw_uri.proofs.Ipv6Address.{nine_to, nine_from}
use Rattle.strkw_uri.proofs.laws.ipv6_in_nine_alternatives.Goals as goal

pub returns : goal.returns
returns c = λ text. (nine_to text, nine_from text)
