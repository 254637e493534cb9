use Rattle.std.proofs.Common.{◌↔◌, length}
use Rattle.std.specs.List.{AllByRecursion}
use Rattle.strkw_net.specs.HostName.{IsLabel}
use Rattle.strkw_net.proofs.HostNameLemmas.{parts}
use Rattle.strkw_net.proofs.host_name.is_host_name.Given as goal

-- the rest is labels where all of it is
abbrev pub invariant-loop-label : goal.invariant-loop-label
invariant-loop-label l = AllByRecursion IsLabel (parts l.rest) ↔ AllByRecursion IsLabel (parts l.bytes)

abbrev pub decreases-loop-label : goal.decreases-loop-label
decreases-loop-label l = length l.rest
