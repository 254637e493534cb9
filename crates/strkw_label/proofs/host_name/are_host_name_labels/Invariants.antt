use Rattle.std.proofs.Common.{◌↔◌, length}
use Rattle.std.specs.List.{AllByRecursion}
use Rattle.strkw_net.proofs.HostNameLemmas.{parts}
use Rattle.strkw_label.specs.HostName.{IsHostNameLabel}
use Rattle.strkw_label.proofs.host_name.are_host_name_labels.Given as goal

-- the rest is such labels where all of it is
abbrev pub invariant-loop-label : goal.invariant-loop-label
invariant-loop-label l = AllByRecursion IsHostNameLabel (parts l.rest) ↔ AllByRecursion IsHostNameLabel (parts l.bytes)

abbrev pub decreases-loop-label : goal.decreases-loop-label
decreases-loop-label l = length l.rest
