use Rattle.std.proofs.Common.{rules}
use Rattle.neldrafi_schema.proofs.Literals.{zero_is, low_is}
use Rattle.neldrafi_schema.proofs.keys.is_negative_whole.Goals as goal

pub returns-then-is_whole_float : goal.returns-then-is_whole_float
returns-then-is_whole_float c = search (rules, zero_is, low_is)
