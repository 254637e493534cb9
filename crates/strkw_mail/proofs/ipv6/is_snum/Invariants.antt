use Rattle.std.proofs.Common.{◌≡◌, ◌<◌, take}
use Rattle.std.specs.Str.Parse.{AllDigits, digits_value}
use Rattle.strkw_mail.proofs.ipv6.is_snum.Given as goal

-- the number is that of the digits so far
abbrev pub invariant-loop-digit : goal.invariant-loop-digit
invariant-loop-digit l = AllDigits 10 (take l.digit-index l.bytes) × (l.number ≡ digits_value 10 (take l.digit-index l.bytes)) × (l.number < 1000)
