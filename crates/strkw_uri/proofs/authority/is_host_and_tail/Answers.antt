use Rattle.strkw_text.proofs.Equivalences.{carry}
use Rattle.strkw_net.specs.Addresses.{IsIpv4}
use Rattle.strkw_uri.specs.Characters.{is_reg_name_char}
use Rattle.strkw_uri.specs.Uri.{BracketedAddress}
use Rattle.strkw_uri.specs.Scan.{alphabet, PortAndTail}
use Rattle.strkw_uri.specs.declared.part.Part.TheVariants.{RegNameChar}
use Rattle.strkw_uri.proofs.Delimiters.{port_no_bracket, port_stops_name}
use Rattle.strkw_uri.proofs.Hosts.{ipv4_is_name, host_at, host_off}
use Rattle.strkw_uri.proofs.Parts.{no_percent, no_bracket_in_name}
use Rattle.strkw_uri.proofs.authority.is_host_and_tail.Goals as goal

pub returns-in-Some : goal.returns-in-Some
returns-in-Some c =
    let s = c.args.syntax in
    let K = alphabet s in
    carry c.is_bracketed_address_and_tail.ensures
    (host_at BracketedAddress IsIpv4 (PortAndTail K) (is_reg_name_char K) (no_percent s RegNameChar) (no_bracket_in_name s) (ipv4_is_name s) (port_no_bracket K)
    (port_stops_name s) _ _ c.in-Some.ensures.cases)

pub returns-in-None : goal.returns-in-None
returns-in-None c =
    let s = c.args.syntax in
    let K = alphabet s in
    carry c.is_port_and_tail.ensures
    (host_off BracketedAddress IsIpv4 (PortAndTail K) (is_reg_name_char K) (no_percent s RegNameChar) (no_bracket_in_name s) (ipv4_is_name s)
    (port_no_bracket K) (port_stops_name s) _ _ c.in-None.ensures.cases c.requires)
