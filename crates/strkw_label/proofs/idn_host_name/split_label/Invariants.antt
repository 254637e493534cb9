use Rattle.std.proofs.Common.{◌≡◌, false, take, All}
use Rattle.strkw_label.specs.IdnHostName.{is_label_separator}
use Rattle.strkw_label.proofs.idn_host_name.split_label.Given as goal

-- no separator so far
abbrev pub invariant-loop-at : goal.invariant-loop-at
invariant-loop-at l = All (λ c. is_label_separator c ≡ false) (take l.at l.text)
