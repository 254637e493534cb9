use Rattle.std.proofs.Common.{◌↔◌, length}
use Rattle.std.specs.List.{AllByRecursion}
use Rattle.strkw_net.proofs.HostNameLemmas.{parts}
use Rattle.strkw_mail.specs.Mailbox.{IsSubDomain}
use Rattle.strkw_mail.proofs.domain.is_domain_name.Given as goal

-- the rest is labels where all of it is
abbrev pub invariant-loop-label : goal.invariant-loop-label
invariant-loop-label l = AllByRecursion IsSubDomain (parts l.rest) ↔ AllByRecursion IsSubDomain (parts l.bytes)

abbrev pub decreases-loop-label : goal.decreases-loop-label
decreases-loop-label l = length l.rest
