use Rattle.strkw_ecma.proofs.StrictPatterns.{rewritten, is_code, value}
use Rattle.strkw_ecma.proofs.laws.lenient_escapes_are_rewritten.Goals as goal

pub returns : goal.returns
returns c = record { first = rewritten; escape = is_code; character = value }
