use Rattle.std.proofs.Common.{◌↔◌, length}
use Rattle.strkw_mail.specs.Scan.{FromGroup}
use Rattle.strkw_mail.proofs.ipv6.is_from_group.Given as goal

-- the rest goes on from a group where the whole does
abbrev pub invariant-loop-group : goal.invariant-loop-group
invariant-loop-group l = FromGroup l.before_last l.bytes ↔ FromGroup l.left l.rest

abbrev pub decreases-loop-group : goal.decreases-loop-group
decreases-loop-group l = length l.rest
