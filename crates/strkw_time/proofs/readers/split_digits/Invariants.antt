use Rattle.std.proofs.Common.{◌≡◌, take}
use Rattle.std.specs.Str.Parse.{AllDigits}
use Rattle.strkw_time.proofs.readers.split_digits.Given as goal

abbrev pub invariant-loop-b : goal.invariant-loop-b
invariant-loop-b l = (l.len ≡ l.b-index) × AllDigits 10 (take l.b-index l.bytes)
