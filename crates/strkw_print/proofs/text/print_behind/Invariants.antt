use Rattle.std.proofs.Common.{◌≡◌, take}
use Rattle.std.specs.Bool.{MatchBool}
use Rattle.strkw_print.specs.Printed.{printed_text}
use Rattle.strkw_print.proofs.text.print_behind.Given as goal

-- the bytes so far are printed as they stand, or the text is not
abbrev pub invariant-loop-byte : goal.invariant-loop-byte
invariant-loop-byte l =
    MatchBool l.is_plain (printed_text (take l.byte-index l.byte-items) ≡ take l.byte-index l.byte-items)
    (printed_text l.byte-items ≡ l.byte-items → ⊥)
