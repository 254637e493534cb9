use Rattle.std.proofs.Common.{◌+◌, length}
use Rattle.std.specs.Option.{option_map_or}
use Rattle.strkw_label.proofs.IdnHostNames.{NameSoFar}
use Rattle.strkw_label.proofs.idn_host_name.is_idn_host_name.Given as goal

-- the labels so far stand for forms with these facts
abbrev pub invariant-loop-left : goal.invariant-loop-left
invariant-loop-left l = NameSoFar l.text l.left l.facts

abbrev pub decreases-loop-left : goal.decreases-loop-left
decreases-loop-left l = option_map_or (λ rest. length rest.now + 1) l.left 0
