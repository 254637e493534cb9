use Rattle.std.proofs.Common.{◌≡◌, ◌++◌, take}
use Rattle.strkw_keywords.specs.Validators.{remarks_in}
use Rattle.strkw_print.specs.Printed.{note_lines}
use Rattle.strkw_print.proofs.lines.push_notes.Given as goal

abbrev pub invariant-loop-validator : goal.invariant-loop-validator
invariant-loop-validator g l = l.out.items ≡ l.initial.out.items ++ note_lines (remarks_in (take l.validator-index l.validator-items))
