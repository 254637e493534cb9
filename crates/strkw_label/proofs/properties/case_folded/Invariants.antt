use Rattle.std.proofs.Common.{◌≡◌, take}
use Rattle.caseless.specs.Caseless.{default_case_fold}
use Rattle.strkw_label.proofs.properties.case_folded.Given as goal

-- what is folded is the folding of the characters so far
abbrev pub invariant-loop-c : goal.invariant-loop-c
invariant-loop-c l = l.folded.items ≡ default_case_fold (take l.c-index l.text)
