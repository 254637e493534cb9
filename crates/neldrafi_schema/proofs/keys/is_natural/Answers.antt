use Rattle.std.proofs.Common.{rules}
use Rattle.neldrafi_schema.proofs.Literals.{zero_is, high_is}
use Rattle.neldrafi_schema.proofs.keys.is_natural.Goals as goal

pub returns-then-is_whole_float : goal.returns-then-is_whole_float
returns-then-is_whole_float c = search (rules, zero_is, high_is)
