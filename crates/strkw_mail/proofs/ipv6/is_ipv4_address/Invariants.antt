use Rattle.std.proofs.Common.{◌↔◌}
use Rattle.strkw_mail.proofs.Colons.{Snums}
use Rattle.strkw_mail.proofs.ipv6.is_ipv4_address.Given as goal

-- so many further numbers are to come where the whole is an address
abbrev pub invariant-loop-further : goal.invariant-loop-further
invariant-loop-further l = Snums 3 l.bytes ↔ Snums l.further l.rest

abbrev pub decreases-loop-further : goal.decreases-loop-further
decreases-loop-further l = l.further
