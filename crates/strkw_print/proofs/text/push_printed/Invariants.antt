use Rattle.std.proofs.Common.{◌≡◌, ◌++◌, take}
use Rattle.strkw_print.specs.Printed.{printed_text}
use Rattle.strkw_print.proofs.text.push_printed.Given as goal

abbrev pub invariant-loop-byte : goal.invariant-loop-byte
invariant-loop-byte l = l.out.items ≡ l.initial.out.items ++ printed_text (take l.byte-index l.text)
