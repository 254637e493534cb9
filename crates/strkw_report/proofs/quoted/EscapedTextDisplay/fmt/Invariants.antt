use Rattle.std.specs.Str.{encode_utf8_all}
use Rattle.std.specs.Fmt.{HasWritten, IsPlainFormatter}
use Rattle.json.specs.Print.{escape}
use Rattle.strkw_report.proofs.quoted.EscapedTextDisplay.fmt.Given as goal

abbrev pub invariant-loop-c : goal.invariant-loop-c
invariant-loop-c g l =
    IsPlainFormatter l.initial.f
    → HasWritten g.W.Write.write_str_gives l.initial.f (escape (encode_utf8_all l.yielded)) l.f
