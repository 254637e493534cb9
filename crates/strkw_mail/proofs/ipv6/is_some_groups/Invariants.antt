use Rattle.std.proofs.Common.{◌↔◌, length}
use Rattle.strkw_mail.specs.Scan.{SomeGroups}
use Rattle.strkw_mail.proofs.ipv6.is_some_groups.Given as goal

-- the rest is some groups where the whole is
abbrev pub invariant-loop-group : goal.invariant-loop-group
invariant-loop-group l = SomeGroups l.most l.bytes ↔ SomeGroups l.left l.rest

abbrev pub decreases-loop-group : goal.decreases-loop-group
decreases-loop-group l = length l.rest
