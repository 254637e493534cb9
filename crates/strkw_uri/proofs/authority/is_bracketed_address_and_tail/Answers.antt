use Rattle.strkw_text.proofs.Equivalences.{carry, nope, lost_first, kept_first}
use Rattle.strkw_uri.specs.Scan.{alphabet, PortAndTail}
use Rattle.strkw_uri.proofs.Literals.{address_then, no_address_then}
use Rattle.strkw_uri.proofs.authority.is_bracketed_address_and_tail.Goals as goal

pub returns-in-None : goal.returns-in-None
returns-in-None c = nope (no_address_then (PortAndTail (alphabet c.args.syntax)) _ c.in-None.ensures.cases)

pub returns-then-is_bracketed_address : goal.returns-then-is_bracketed_address
returns-then-is_bracketed_address c =
    carry (kept_first c.is_bracketed_address.ensures c.if-is_bracketed_address.true c.is_port_and_tail.ensures)
    (address_then c.ipv6_has_no_bracket.ensures (PortAndTail (alphabet c.args.syntax)) _ _ _ c.in-Some.ensures.cases.0 c.in-Some.ensures.cases.1)

pub returns-else-is_bracketed_address : goal.returns-else-is_bracketed_address
returns-else-is_bracketed_address c =
    carry (lost_first c.is_bracketed_address.ensures c.if-is_bracketed_address.false)
    (address_then c.ipv6_has_no_bracket.ensures (PortAndTail (alphabet c.args.syntax)) _ _ _ c.in-Some.ensures.cases.0 c.in-Some.ensures.cases.1)
