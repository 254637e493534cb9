use Rattle.std.proofs.Common.{sym, subst, ◌↔◌, Bool, IsTrue}
use Rattle.strkw_net.specs.Addresses.{IsIpv4}
use Rattle.strkw_net.proofs.AddressLemmas.{ipv4_parsed}
use Rattle.strkw_net.proofs.addresses.is_ipv4.Goals as goal

pub returns : goal.returns
returns c = subst (λ (x : Bool). (IsTrue x) ↔ IsIpv4 c.args.bytes.now) (sym c.is_ok.ensures.value)
    (ipv4_parsed c.args.bytes.now c.parse_ascii.result c.parse_ascii.ensures)
